use Rattle.std.proofs.Common.{arith}
use Rattle.qs_gen.specs.Load.{with_puts}
use Rattle.qs_gen.proofs.LoadLemmas.{no_puts, next_put, all_of}
use Rattle.qs_gen.proofs.draft.Draft.add_puts.Goals as goal

pub loop-file-init : goal.loop-file-init
loop-file-init c = no_puts c.args.label c.args.self.now

pub loop-file-preserved : goal.loop-file-preserved
loop-file-preserved c = next_put c.args.label _ _ _ _ c.in_ok-add_put.ensures c.loop-file.invariant

pub returns : goal.returns
returns c = all_of (λ file. with_puts c.args.label file c.args.self.now) _ _ 4 (omega arith) c.loop-file.invariant
