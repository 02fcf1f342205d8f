use Rattle.std.proofs.Common.{◌∙◌, OnOk, ap, subst, sym}
use Rattle.qs_world_sites.proofs.Written.{written}
use Rattle.qs_world_sites.specs.Bursts.{AreFifoSites}
use Rattle.qs_world_sites.specs.Sites.{AreCarried, AreLinked, Each, HasSameCell}
use Rattle.qs_world_sites.proofs.sites.Sites.carry.Goals as goal

pub carry_all-requires : goal.carry_all-requires
carry_all-requires g c = subst AreLinked (sym c.as_mut_slice.ensures.value) c.self.invariant

pub invariant_of-self : goal.invariant_of-self
invariant_of-self g c =
    subst AreLinked (sym (written c.self.inside.sites.len c.carry_all.new.sites c.self.inside.sites.items (c.carry_all.ensures.cells.count ∙ c.as_mut_slice.ensures.len))) c.carry_all.ensures.linked

pub returns-clause-carries : goal.returns-clause-carries
returns-clause-carries g c =
    subst (λ new. OnOk c.carry_all.result (AreCarried c.args.self.now.sites new))
    (sym (written c.self.inside.sites.len c.carry_all.new.sites c.self.inside.sites.items (c.carry_all.ensures.cells.count ∙ c.as_mut_slice.ensures.len)))
    (subst (λ old. OnOk c.carry_all.result (AreCarried old c.carry_all.new.sites)) (c.as_mut_slice.ensures.value ∙ ap (λ v. v.sites) c.self.view_is) c.carry_all.ensures.carries)

pub returns-clause-cells : goal.returns-clause-cells
returns-clause-cells g c =
    subst (Each HasSameCell c.args.self.now.sites)
    (sym (written c.self.inside.sites.len c.carry_all.new.sites c.self.inside.sites.items (c.carry_all.ensures.cells.count ∙ c.as_mut_slice.ensures.len)))
    (subst (λ old. Each HasSameCell old c.carry_all.new.sites) (c.as_mut_slice.ensures.value ∙ ap (λ v. v.sites) c.self.view_is) c.carry_all.ensures.cells)

pub returns-clause-turns : goal.returns-clause-turns
returns-clause-turns g c = ap (λ v. v.turns) c.self.view_is

pub returns-clause-joined : goal.returns-clause-joined
returns-clause-joined g c = subst AreFifoSites (c.as_mut_slice.ensures.value ∙ ap (λ v. v.sites) c.self.view_is) c.carry_all.ensures.joined
