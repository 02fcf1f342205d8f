use Rattle.std.proofs.Common.{◌∙◌, arith}
use Rattle.qs_disk.proofs.Images.{quiet_nowhere, settled_nowhere, quiet_settled, settled}
use Rattle.qs_disk.proofs.cells.settle.Goals as goal

pub returns-then-to-from-clause-same : goal.returns-then-to-from-clause-same
returns-then-to-from-clause-same c = settled_nowhere c.args.content.now c.args.stable.now.items c.args.loose.now.items c.args.from c.args.to c.requires (omega arith)

pub returns-then-to-from-clause-quiet : goal.returns-then-to-from-clause-quiet
returns-then-to-from-clause-quiet c = quiet_nowhere c.args.content.now c.args.stable.now.items c.args.loose.now.items c.args.from c.args.to c.requires (omega arith)

pub returns-clause-same : goal.returns-clause-same
returns-clause-same c = c.put.ensures ∙ settled c.args.content.now c.args.stable.now.items c.args.loose.now.items c.args.from c.args.to c.requires (omega arith)

pub returns-clause-quiet : goal.returns-clause-quiet
returns-clause-quiet c = rw c.mark.ensures (quiet_settled c.args.content.now c.args.stable.now.items c.args.loose.now.items c.args.from c.args.to c.requires)
