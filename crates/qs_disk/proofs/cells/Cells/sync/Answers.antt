use Rattle.std.proofs.Common.{◌∙◌, arith}
use Rattle.qs_disk.proofs.Images.{within_synced, still_quiet}
use Rattle.qs_disk.proofs.cells.Cells.sync.Goals as goal

pub invariant_of-self : goal.invariant_of-self
invariant_of-self c =
    within_synced c.self.inside.content.items c.settle.new.stable.items c.settle.new.loose.items c.len-self-inside.result
    (c.settle.ensures.same ∙ c.deref.ensures.value) (omega arith) c.settle.ensures.quiet (omega arith)

pub returns-clause-still : goal.returns-clause-still
returns-clause-still c =
    still_quiet c.args.self.now.content c.settle.new.stable.items c.settle.new.loose.items (cc) c.settle.ensures.quiet
