use Rattle.std.proofs.Common.{◌∙◌, ap, subst, sym}
use Rattle.qs_world_sites.proofs.Written.{written}
use Rattle.qs_world_sites.specs.Bursts.{AreFifoSites}
use Rattle.qs_world_sites.specs.Sites.{AreLinked, Each, HasSameCell}
use Rattle.qs_world_sites.proofs.sites.Sites.look.Goals as goal

pub carry_links-requires : goal.carry_links-requires
carry_links-requires g c = subst AreLinked (sym c.as_mut_slice.ensures.value) c.self.invariant

pub invariant_of-self : goal.invariant_of-self
invariant_of-self g c =
    subst AreLinked (sym (written c.self.inside.sites.len c.carry_links.new.sites c.self.inside.sites.items (c.carry_links.ensures.cells.count ∙ c.as_mut_slice.ensures.len))) c.carry_links.ensures.linked

pub returns-clause-joined : goal.returns-clause-joined
returns-clause-joined g c = subst AreFifoSites (c.as_mut_slice.ensures.value ∙ ap (λ v. v.sites) c.self.view_is) c.carry_links.ensures.joined

pub returns-clause-cells : goal.returns-clause-cells
returns-clause-cells g c =
    subst (Each HasSameCell c.args.self.now.sites)
    (sym (written c.self.inside.sites.len c.carry_links.new.sites c.self.inside.sites.items (c.carry_links.ensures.cells.count ∙ c.as_mut_slice.ensures.len)))
    (subst (λ old. Each HasSameCell old c.carry_links.new.sites) (c.as_mut_slice.ensures.value ∙ ap (λ v. v.sites) c.self.view_is) c.carry_links.ensures.cells)

pub returns-clause-turns : goal.returns-clause-turns
returns-clause-turns g c = ap (λ v. v.turns) c.self.view_is
