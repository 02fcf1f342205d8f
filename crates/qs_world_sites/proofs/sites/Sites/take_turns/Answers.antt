use Rattle.std.proofs.Common.{◌∙◌, OnOk, ap, rules, subst, sym}
use Rattle.qs_world_rounds.specs.Turns.{TakesSome}
use Rattle.qs_world_sites.proofs.Staying.{each_is}
use Rattle.qs_world_sites.proofs.Written.{written}
use Rattle.qs_world_sites.specs.Bursts.{Bursts}
use Rattle.qs_world_sites.specs.Sites.{AreLinked, Each, GoesOn, StaysLinked}
use Rattle.qs_world_sites.proofs.sites.Sites.take_turns.Goals as goal

pub take_all-requires-clause-linked : goal.take_all-requires-clause-linked
take_all-requires-clause-linked g c = let linked : AreLinked c.as_mut_slice.result.now = subst AreLinked (sym c.as_mut_slice.ensures.value) c.self.invariant in search rules

pub invariant_of-self : goal.invariant_of-self
invariant_of-self g c =
    subst AreLinked (sym (written c.self.inside.sites.len c.take_all.new.sites c.self.inside.sites.items (c.take_all.ensures.stays.count ∙ c.as_mut_slice.ensures.len))) c.take_all.ensures.linked

pub returns-clause-bursts : goal.returns-clause-bursts
returns-clause-bursts g c =
    subst (λ new. OnOk c.take_all.result (Bursts g.D.Disk.told g.D.Disk.state g.D.Disk.fault_count g.D.Disk.byte_count c.args.turns c.args.self.now.sites new))
    (sym (written c.self.inside.sites.len c.take_all.new.sites c.self.inside.sites.items (c.take_all.ensures.stays.count ∙ c.as_mut_slice.ensures.len)))
    (subst (λ old. OnOk c.take_all.result (Bursts g.D.Disk.told g.D.Disk.state g.D.Disk.fault_count g.D.Disk.byte_count c.args.turns old c.take_all.new.sites)) (c.as_mut_slice.ensures.value ∙ ap (λ v. v.sites) c.self.view_is) c.take_all.ensures.bursts)

pub returns-clause-some : goal.returns-clause-some
returns-clause-some g c =
    subst (Each (TakesSome g.D.Disk.told g.D.Disk.state g.D.Disk.fault_count g.D.Disk.byte_count c.args.turns) c.args.self.now.sites)
    (sym (written c.self.inside.sites.len c.take_all.new.sites c.self.inside.sites.items (c.take_all.ensures.stays.count ∙ c.as_mut_slice.ensures.len)))
    (subst (λ old. Each (TakesSome g.D.Disk.told g.D.Disk.state g.D.Disk.fault_count g.D.Disk.byte_count c.args.turns) old c.take_all.new.sites) (c.as_mut_slice.ensures.value ∙ ap (λ v. v.sites) c.self.view_is) c.take_all.ensures.some)

pub returns-clause-turns : goal.returns-clause-turns
returns-clause-turns g c = ap (λ v. v.turns) c.self.view_is

pub returns-clause-stays : goal.returns-clause-stays
returns-clause-stays g c =
    subst (Each GoesOn c.args.self.now.sites)
    (sym (written c.self.inside.sites.len c.take_all.new.sites c.self.inside.sites.items (c.take_all.ensures.stays.count ∙ c.as_mut_slice.ensures.len)))
    (subst (λ old. Each GoesOn old c.take_all.new.sites) (c.as_mut_slice.ensures.value ∙ ap (λ v. v.sites) c.self.view_is)
    (each_is StaysLinked GoesOn (λ a b stays. stays.goes_on) c.as_mut_slice.result.now c.take_all.new.sites c.take_all.ensures.stays))
