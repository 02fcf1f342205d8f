use Rattle.std.proofs.Common.{rules, subst}
use Rattle.qs_cell.proofs.Turning.{on_ok_map}
use Rattle.qs_world_rounds.specs.Turns.{TakesSome, TakesTurns}
use Rattle.qs_world_sites.proofs.Meeting.{each_zip}
use Rattle.qs_world_sites.proofs.Staying.{linked_each}
use Rattle.qs_world_sites.specs.Sites.{StaysLinked}
use Rattle.qs_world_sites.proofs.bursts.take_all.Goals as goal

pub returns-clause-bursts : goal.returns-clause-bursts
returns-clause-bursts g c =
    on_ok_map c.each.result c.each.ensures.whole (λ all. each_zip _ (TakesTurns g.D.Disk.told g.D.Disk.state g.D.Disk.fault_count g.D.Disk.byte_count c.args.turns) (λ x y h.
    let i = h.argument_is in let l = h.left in let a = h.call in search rules) c.args.sites.now c.each.new.all all)

pub returns-clause-some : goal.returns-clause-some
returns-clause-some g c =
    each_zip _ (TakesSome g.D.Disk.told g.D.Disk.state g.D.Disk.fault_count g.D.Disk.byte_count c.args.turns) (λ x y h.
    subst (λ old. TakesSome g.D.Disk.told g.D.Disk.state g.D.Disk.fault_count g.D.Disk.byte_count c.args.turns old y) h.changes.argument_is
    (subst (λ new. TakesSome g.D.Disk.told g.D.Disk.state g.D.Disk.fault_count g.D.Disk.byte_count c.args.turns h.changes.argument.now new) h.changes.left h.changes.call.1.0)) c.args.sites.now c.each.new.all c.each.ensures.each

pub returns-clause-stays : goal.returns-clause-stays
returns-clause-stays g c =
    each_zip _ StaysLinked (λ x y h. let i = h.changes.argument_is in let l = h.changes.left in let a = h.changes.call in search rules) c.args.sites.now c.each.new.all c.each.ensures.each

pub returns-clause-linked : goal.returns-clause-linked
returns-clause-linked g c = linked_each c.args.sites.now c.each.new.all c.requires.linked (returns-clause-stays g c)
