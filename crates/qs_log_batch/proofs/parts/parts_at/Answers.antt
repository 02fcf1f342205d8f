use Rattle.std.proofs.Common.{rules, arith}
use Rattle.qs_log_batch.proofs.CutLemmas.{none_short}
use Rattle.qs_log_batch.proofs.parts.parts_at.Goals as goal

-- src/parts.rt:37:9
pub returns-then-behind_head-size : goal.returns-then-behind_head-size
returns-then-behind_head-size c =
    none_short c.args.area.now c.split_at-2.result.0.now c.split_at-2.result.1.now c.head_of-size.result.0 c.head_of-size.result.1 c.requires (omega arith) (search rules) (search rules)
    c.head_of-size.ensures c.if-behind_head-size.true
