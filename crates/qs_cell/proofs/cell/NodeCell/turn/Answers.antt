use Rattle.std.proofs.Common.{◌∙◌, ap, subst, sym}
use Rattle.qs_cell.proofs.Logging.{logged_made, made_on}
use Rattle.qs_world.specs.Histories.{opened_with}
use Rattle.qs_cell.specs.Joined.{HaveSameRings}
use Rattle.qs_cell.proofs.Rings.{rings_as, rings_on, rings_left}
use Rattle.qs_cell.proofs.Reopening.{rounds_stay, within_made}
use Rattle.qs_cell.proofs.Standing.{sound_seen, sound_after}
use Rattle.qs_cell.proofs.Turning.{turn_none, turn_made, turn_broken, on_err_all, on_ok_map}
use Rattle.qs_cell.proofs.cell.NodeCell.turn.Goals as goal

pub invariant_of-self : goal.invariant_of-self
invariant_of-self g c = sound_seen g.D.Disk.told g.D.Disk.state (opened_with c.self.inside.first c.self.inside.found) (λ s. s) c.self.inside.state c.make_room.new.self rounds_stay c.make_room.ensures.same c.self.invariant

pub invariant_of-self-in_err-occasion : goal.invariant_of-self-in_err-occasion
invariant_of-self-in_err-occasion g c =
    sound_seen g.D.Disk.told g.D.Disk.state (opened_with c.self.inside.first c.self.inside.found) (λ s. s) c.self.inside.state c.make_room.new.self rounds_stay c.make_room.ensures.same c.self.invariant

pub invariant_of-self-in_default : goal.invariant_of-self-in_default
invariant_of-self-in_default g c =
    sound_seen g.D.Disk.told g.D.Disk.state (opened_with c.self.inside.first c.self.inside.found) (λ s. s) c.self.inside.state c.make_room.new.self rounds_stay c.make_room.ensures.same c.self.invariant

pub returns-in_default-clause-turns : goal.returns-in_default-clause-turns
returns-in_default-clause-turns g c =
    turn_none g.D.Disk.told g.D.Disk.state g.D.Disk.fault_count g.D.Disk.byte_count c.args.source c.args.self.now.seat c.self.inside.state c.make_room.new.self c.self.inside.ends.items c.next.new.ends.items
    (ap (λ cell. cell.seat) c.self.view_is) c.make_room.ensures.same (sym c.in_ok-occasion.ensures.due ∙ c.in_default.is) c.in_ok-occasion.ensures.left

pub event-answers-requires : goal.event-answers-requires
event-answers-requires g c = record {
  stands = (sound_seen g.D.Disk.told g.D.Disk.state (opened_with c.self.inside.first c.self.inside.found) (λ s. s) c.self.inside.state c.make_room.new.self rounds_stay c.make_room.ensures.same c.self.invariant).stands;
  room = c.in_ok-make_room.ensures.room;
}

pub invariant_of-self-2 : goal.invariant_of-self-2
invariant_of-self-2 g c =
    let ready = sound_seen g.D.Disk.told g.D.Disk.state (opened_with c.self.inside.first c.self.inside.found) (λ s. s) c.self.inside.state c.make_room.new.self rounds_stay c.make_room.ensures.same c.self.invariant in
    sound_after g.D.Disk.told g.D.Disk.state (opened_with c.self.inside.first c.self.inside.found) c.make_room.new.self c.event-answers.new.self c.event-answers.ensures.stands
    (made_on g.D.Disk.told g.D.Disk.state g.D.Disk.fault_count g.D.Disk.byte_count (opened_with c.self.inside.first c.self.inside.found) c.in-Some.occasion c.make_room.new.self c.event-answers.new.self
    c.event-answers.result c.event-answers.ensures.makes ready.goes_on)
    (logged_made g.D.Disk.told g.D.Disk.state g.D.Disk.fault_count g.D.Disk.byte_count (opened_with c.self.inside.first c.self.inside.found) c.in-Some.occasion c.make_room.new.self c.event-answers.new.self
    c.event-answers.result c.event-answers.ensures.makes ready.goes_on ready.logged)
    (within_made g.D.Disk.told g.D.Disk.state g.D.Disk.fault_count g.D.Disk.byte_count c.in-Some.occasion c.make_room.new.self c.event-answers.new.self
    c.event-answers.result c.event-answers.ensures.makes ready.stands ready.within)
    c.event-answers.ensures.setting ready

pub returns-clause-turns : goal.returns-clause-turns
returns-clause-turns g c = on_ok_map c.deliver_all.result c.deliver_all.ensures.ok (λ after.
    turn_made g.D.Disk.told g.D.Disk.state g.D.Disk.fault_count g.D.Disk.byte_count c.args.source c.in-Some.occasion c.args.self.now.seat c.self.inside.state c.make_room.new.self c.event-answers.new.self
    c.self.inside.ends.items c.next.new.ends.items c.deliver_all.new.ends.items c.event-answers.result (ap (λ cell. cell.seat) c.self.view_is)
    c.make_room.ensures.same (sym c.in_ok-occasion.ensures.due ∙ c.in-Some.is) c.in_ok-occasion.ensures.left c.event-answers.ensures.makes after)

pub returns-clause-breaks : goal.returns-clause-breaks
returns-clause-breaks g c = on_err_all c.deliver_all.result
    (turn_broken g.D.Disk.told g.D.Disk.state g.D.Disk.fault_count g.D.Disk.byte_count c.args.source c.in-Some.occasion c.args.self.now.seat (record { node = c.event-answers.new.self; ends = c.deliver_all.new.ends.items })
    c.self.inside.state c.make_room.new.self c.self.inside.ends.items c.event-answers.result (ap (λ cell. cell.seat) c.self.view_is)
    c.make_room.ensures.same (sym c.in_ok-occasion.ensures.due ∙ c.in-Some.is) c.event-answers.ensures.makes)

pub returns-in_err-make_room-clause-rings : goal.returns-in_err-make_room-clause-rings
returns-in_err-make_room-clause-rings g c = rings_as c.args.self.now.seat.ends c.self.inside.ends.items (ap (λ cell. cell.seat.ends) c.self.view_is)

pub returns-in_err-occasion-clause-rings : goal.returns-in_err-occasion-clause-rings
returns-in_err-occasion-clause-rings g c =
    rings_as c.args.self.now.seat.ends c.next.new.ends.items (c.in_err-occasion.ensures.err ∙ ap (λ cell. cell.seat.ends) c.self.view_is)

pub returns-in_default-clause-rings : goal.returns-in_default-clause-rings
returns-in_default-clause-rings g c =
    subst (λ ends. HaveSameRings ends c.next.new.ends.items) (ap (λ cell. cell.seat.ends) c.self.view_is)
    (subst (HaveSameRings c.self.inside.ends.items) (sym c.in_ok-occasion.ensures.left) (rings_left c.args.source c.make_room.new.self c.self.inside.ends.items))

pub returns-clause-rings : goal.returns-clause-rings
returns-clause-rings g c =
    subst (λ ends. HaveSameRings ends c.deliver_all.new.ends.items) (ap (λ cell. cell.seat.ends) c.self.view_is)
    (rings_on c.self.inside.ends.items c.next.new.ends.items c.deliver_all.new.ends.items
    (subst (HaveSameRings c.self.inside.ends.items) (sym c.in_ok-occasion.ensures.left) (rings_left c.args.source c.make_room.new.self c.self.inside.ends.items))
    c.deliver_all.ensures.rings)
