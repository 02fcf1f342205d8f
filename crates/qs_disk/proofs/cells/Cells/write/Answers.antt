use Rattle.std.proofs.Common.{length, ap, arith}
use Rattle.qs_disk.specs.Cells.{CellsValue}
use Rattle.qs_disk.proofs.Images.{within_written, torn_from, matches_still}
use Rattle.qs_disk.proofs.cells.Cells.write.Goals as goal

pub invariant_of-self : goal.invariant_of-self
invariant_of-self c =
    rw (c.put.ensures, c.mark.ensures, c.min-self-inside.ensures, c.max-self-inside.ensures)
    (within_written c.self.inside.content.items c.self.inside.stable.items c.self.inside.loose.items c.self.inside.from c.self.inside.to c.args.at c.args.bytes.now c.self.invariant (omega (arith, ap (λ (v : CellsValue). length v.content) c.self.view_is)))

pub returns-clause-images : goal.returns-clause-images
returns-clause-images c = λ image m.
    rw (← c.self.view_is) (torn_from c.args.at (length c.args.bytes.now) c.self.inside.stable.items c.self.inside.loose.items image (omega (arith, c.self.invariant.flags, c.self.invariant.bytes)) (omega (arith, c.self.invariant.bytes, ap (λ (v : CellsValue). length v.content) c.self.view_is)) (rw c.mark.ensures at m))

pub returns-clause-keeps : goal.returns-clause-keeps
returns-clause-keeps c = λ image m.
    rw c.mark.ensures (matches_still c.args.at (length c.args.bytes.now) c.self.inside.stable.items c.self.inside.loose.items image (omega (arith, c.self.invariant.flags, c.self.invariant.bytes)) (omega (arith, c.self.invariant.bytes, ap (λ (v : CellsValue). length v.content) c.self.view_is)) (rw (← c.self.view_is) at m))
