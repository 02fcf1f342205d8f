use Rattle.std.proofs.Common.{rules}
use Rattle.qs_record.proofs.Ops.{changes_answered}
use Rattle.qs_record.proofs.op_taking.take_changes.Goals as goal

pub returns-clause-value : goal.returns-clause-value
returns-clause-value c =
    changes_answered c.take_each.result c.in_ok-count.count c.args.reader.now c.u32.new.self c.take_each.new.reader (search rules) c.in_ok-count.ensures.value c.take_each.ensures.value
