use Rattle.std.proofs.Common.{subst}
use Rattle.qs_disk.specs.Disk.{Matches}
use Rattle.qs_disk.proofs.Images.{within_drawn}
use Rattle.qs_disk.proofs.cells.Cells.cut.Goals as goal

pub invariant_of-self : goal.invariant_of-self
invariant_of-self c =
    within_drawn c.self.inside.content.items c.self.inside.stable.items c.draw.new.content.items c.self.inside.loose.items c.self.inside.from c.self.inside.to
    c.self.invariant (subst (λ s. Matches s c.self.inside.loose.items c.draw.new.content.items) c.deref.ensures.value (subst (λ l. Matches c.deref.result.now l c.draw.new.content.items) c.deref-2.ensures.value c.draw.ensures.image)) c.draw.ensures.long
