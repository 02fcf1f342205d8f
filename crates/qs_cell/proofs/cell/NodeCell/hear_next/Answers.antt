use Rattle.std.proofs.Common.{◌≡◌, ◌∙◌, ap, subst, sym, Bool, true, false}
use Rattle.std.specs.Prelude.{Option, None, Some, Ok, is_some}
use Rattle.qs_book_journal.specs.declared.entry.CrashCause.{CrashCause}
use Rattle.qs_world.specs.Histories.{opened_with}
use Rattle.qs_cell_peers.specs.Links.{KeepsEnds, StayLinked}
use Rattle.qs_cell_peers.proofs.Linked.{linked_as, taken_linked}
use Rattle.qs_cell.specs.Hearing.{BreaksHearing, Hears, Post}
use Rattle.qs_cell.specs.Starts.{post_of}
use Rattle.qs_cell.specs.State.{cause_of}
use Rattle.qs_cell.proofs.Acting.{keeps_as, taken_keeps}
use Rattle.qs_cell.proofs.Hearing.{taken_sound}
use Rattle.qs_cell.proofs.HearingTurns.{has_taken, hearing_breaks, hears_down, hears_none, hears_some}
use Rattle.qs_cell.proofs.Reopening.{rounds_stay}
use Rattle.qs_cell.proofs.Rings.{rings_as}
use Rattle.qs_cell.proofs.Standing.{sound_seen}
use Rattle.qs_cell.proofs.Turning.{on_err_all, on_ok_map}
use Rattle.qs_cell.proofs.cell.NodeCell.hear_next.Goals as goal

pub invariant_of-self : goal.invariant_of-self
invariant_of-self g c = sound_seen g.D.Disk.told g.D.Disk.state (opened_with c.self.inside.first c.self.inside.found) (λ s. s) c.self.inside.state c.make_room.new.self rounds_stay c.make_room.ensures.same c.self.invariant

pub invariant_of-self-then-is_some : goal.invariant_of-self-then-is_some
invariant_of-self-then-is_some g c = sound_seen g.D.Disk.told g.D.Disk.state (opened_with c.self.inside.first c.self.inside.found) (λ s. s) c.self.inside.state c.make_room.new.self rounds_stay c.make_room.ensures.same c.self.invariant

pub invariant_of-self-in_err-packet : goal.invariant_of-self-in_err-packet
invariant_of-self-in_err-packet g c = sound_seen g.D.Disk.told g.D.Disk.state (opened_with c.self.inside.first c.self.inside.found) (λ s. s) c.self.inside.state c.make_room.new.self rounds_stay c.make_room.ensures.same c.self.invariant

pub invariant_of-self-in_default : goal.invariant_of-self-in_default
invariant_of-self-in_default g c = sound_seen g.D.Disk.told g.D.Disk.state (opened_with c.self.inside.first c.self.inside.found) (λ s. s) c.self.inside.state c.make_room.new.self rounds_stay c.make_room.ensures.same c.self.invariant

pub returns-in_err-make_room-clause-rings : goal.returns-in_err-make_room-clause-rings
returns-in_err-make_room-clause-rings g c = rings_as c.args.self.now.seat.ends c.self.inside.ends.items (ap (λ cell. cell.seat.ends) c.self.view_is)

pub returns-then-is_some-clause-rings : goal.returns-then-is_some-clause-rings
returns-then-is_some-clause-rings g c = rings_as c.args.self.now.seat.ends c.self.inside.ends.items (ap (λ cell. cell.seat.ends) c.self.view_is)

pub returns-in_err-packet-clause-rings : goal.returns-in_err-packet-clause-rings
returns-in_err-packet-clause-rings g c = rings_as c.args.self.now.seat.ends c.self.inside.ends.items (ap (λ cell. cell.seat.ends) c.self.view_is)

pub returns-in_default-clause-rings : goal.returns-in_default-clause-rings
returns-in_default-clause-rings g c = rings_as c.args.self.now.seat.ends c.self.inside.ends.items (ap (λ cell. cell.seat.ends) c.self.view_is)

pub returns-in_err-make_room-clause-linked : goal.returns-in_err-make_room-clause-linked
returns-in_err-make_room-clause-linked g c = linked_as c.args.self.now.links c.self.inside.links (ap (λ cell. cell.links) c.self.view_is)

pub returns-then-is_some-clause-linked : goal.returns-then-is_some-clause-linked
returns-then-is_some-clause-linked g c = linked_as c.args.self.now.links c.self.inside.links (ap (λ cell. cell.links) c.self.view_is)

pub returns-in_err-packet-clause-linked : goal.returns-in_err-packet-clause-linked
returns-in_err-packet-clause-linked g c = subst (λ links. StayLinked links c.take_carried.new.self) (ap (λ cell. cell.links) c.self.view_is)
    (taken_linked c.args.from c.self.inside.links c.take_carried.new.self c.take_carried.ensures.same c.take_carried.ensures.out c.take_carried.ensures.others c.take_carried.ensures.ring)

pub returns-in_default-clause-linked : goal.returns-in_default-clause-linked
returns-in_default-clause-linked g c = subst (λ links. StayLinked links c.take_carried.new.self) (ap (λ cell. cell.links) c.self.view_is)
    (taken_linked c.args.from c.self.inside.links c.take_carried.new.self c.take_carried.ensures.same c.take_carried.ensures.out c.take_carried.ensures.others c.take_carried.ensures.ring)

pub returns-clause-linked : goal.returns-clause-linked
returns-clause-linked g c = subst (λ links. StayLinked links c.take_carried.new.self) (ap (λ cell. cell.links) c.self.view_is)
    (taken_linked c.args.from c.self.inside.links c.take_carried.new.self c.take_carried.ensures.same c.take_carried.ensures.out c.take_carried.ensures.others c.take_carried.ensures.ring)

-- whether the node is up
up_is : (cause : Option CrashCause) (some : Bool) (it : Option CrashCause) (b : Bool) → it ≡ cause → some ≡ is_some it → some ≡ b → is_some cause ≡ b
up_is cause some it b is some_is b_is = sym (ap (λ (c : Option CrashCause). is_some c) is) ∙ (sym some_is ∙ b_is)

pub returns-then-is_some-clause-hears : goal.returns-then-is_some-clause-hears
returns-then-is_some-clause-hears g c =
    let before : Post g.row.D.Denot = record { seat = record { node = c.self.inside.state; ends = c.self.inside.ends.items }; links = c.self.inside.links } in
    let after : Post g.row.D.Denot = record { seat = record { node = c.make_room.new.self; ends = c.self.inside.ends.items }; links = c.self.inside.links } in
    subst (λ (old : Post g.row.D.Denot). Hears g.D.Disk.told g.D.Disk.state g.D.Disk.fault_count g.D.Disk.byte_count c.args.from old after) (ap (λ cell. post_of cell) c.self.view_is)
    (hears_down g.D.Disk.told g.D.Disk.state g.D.Disk.fault_count g.D.Disk.byte_count c.args.from before c.make_room.new.self c.make_room.ensures.same
    (up_is (cause_of c.make_room.new.self) c.is_some.result c.cause.result true c.cause.ensures c.is_some.ensures c.if-is_some.true))

pub returns-in_default-clause-hears : goal.returns-in_default-clause-hears
returns-in_default-clause-hears g c =
    let before : Post g.row.D.Denot = record { seat = record { node = c.self.inside.state; ends = c.self.inside.ends.items }; links = c.self.inside.links } in
    let after : Post g.row.D.Denot = record { seat = record { node = c.make_room.new.self; ends = c.self.inside.ends.items }; links = c.take_carried.new.self } in
    subst (λ (old : Post g.row.D.Denot). Hears g.D.Disk.told g.D.Disk.state g.D.Disk.fault_count g.D.Disk.byte_count c.args.from old after) (ap (λ cell. post_of cell) c.self.view_is)
    (hears_none g.D.Disk.told g.D.Disk.state g.D.Disk.fault_count g.D.Disk.byte_count c.args.from before c.make_room.new.self c.make_room.ensures.same c.take_carried.new.self
    (up_is (cause_of c.make_room.new.self) c.is_some.result c.cause.result false c.cause.ensures c.is_some.ensures c.if-is_some.false)
    (has_taken c.args.from c.take_carried.result None c.self.inside.links c.take_carried.new.self (c.in_ok-packet.was ∙ ap Ok c.in_default.is) c.take_carried.ensures.same c.take_carried.ensures.out c.take_carried.ensures.others
    c.take_carried.ensures.took c.take_carried.ensures.ring c.take_carried.ensures.none))

pub hear-answers-requires-clause-stands : goal.hear-answers-requires-clause-stands
hear-answers-requires-clause-stands g c =
    (sound_seen g.D.Disk.told g.D.Disk.state (opened_with c.self.inside.first c.self.inside.found) (λ s. s) c.self.inside.state c.make_room.new.self rounds_stay c.make_room.ensures.same c.self.invariant).stands

pub invariant_of-self-2 : goal.invariant_of-self-2
invariant_of-self-2 g c =
    let ready = sound_seen g.D.Disk.told g.D.Disk.state (opened_with c.self.inside.first c.self.inside.found) (λ s. s) c.self.inside.state c.make_room.new.self rounds_stay c.make_room.ensures.same c.self.invariant in
    taken_sound g.D.Disk.told g.D.Disk.state g.D.Disk.fault_count g.D.Disk.byte_count (opened_with c.self.inside.first c.self.inside.found) c.in-Some.packet c.make_room.new.self c.hear-answers.new.self
    c.hear-answers.result c.hear-answers.ensures.takes c.hear-answers.ensures.stands c.hear-answers.ensures.setting ready

pub returns-clause-hears : goal.returns-clause-hears
returns-clause-hears g c = on_ok_map c.deliver_all.result c.deliver_all.ensures.ok (λ ends_are.
    let before : Post g.row.D.Denot = record { seat = record { node = c.self.inside.state; ends = c.self.inside.ends.items }; links = c.self.inside.links } in
    let after : Post g.row.D.Denot = record { seat = record { node = c.hear-answers.new.self; ends = c.deliver_all.new.ends.items }; links = c.take_carried.new.self } in
    subst (λ (old : Post g.row.D.Denot). Hears g.D.Disk.told g.D.Disk.state g.D.Disk.fault_count g.D.Disk.byte_count c.args.from old after) (ap (λ cell. post_of cell) c.self.view_is)
    (hears_some g.D.Disk.told g.D.Disk.state g.D.Disk.fault_count g.D.Disk.byte_count c.args.from before c.make_room.new.self c.make_room.ensures.same c.in-Some.packet c.take_carried.new.self c.hear-answers.new.self
    c.deliver_all.new.ends.items c.hear-answers.result
    (up_is (cause_of c.make_room.new.self) c.is_some.result c.cause.result false c.cause.ensures c.is_some.ensures c.if-is_some.false)
    (has_taken c.args.from c.take_carried.result (Some c.in-Some.packet) c.self.inside.links c.take_carried.new.self (c.in_ok-packet.was ∙ ap Ok c.in-Some.is) c.take_carried.ensures.same c.take_carried.ensures.out
    c.take_carried.ensures.others c.take_carried.ensures.took c.take_carried.ensures.ring c.take_carried.ensures.none)
    c.hear-answers.ensures.takes ends_are))

pub returns-clause-breaks : goal.returns-clause-breaks
returns-clause-breaks g c =
    let before : Post g.row.D.Denot = record { seat = record { node = c.self.inside.state; ends = c.self.inside.ends.items }; links = c.self.inside.links } in
    let after : Post g.row.D.Denot = record { seat = record { node = c.hear-answers.new.self; ends = c.deliver_all.new.ends.items }; links = c.take_carried.new.self } in
    on_err_all c.deliver_all.result
    (subst (λ (old : Post g.row.D.Denot). BreaksHearing g.D.Disk.told g.D.Disk.state g.D.Disk.fault_count g.D.Disk.byte_count c.args.from old after) (ap (λ cell. post_of cell) c.self.view_is)
    (hearing_breaks g.D.Disk.told g.D.Disk.state g.D.Disk.fault_count g.D.Disk.byte_count c.args.from before after c.make_room.new.self c.in-Some.packet c.hear-answers.result c.make_room.ensures.same
    (has_taken c.args.from c.take_carried.result (Some c.in-Some.packet) c.self.inside.links c.take_carried.new.self (c.in_ok-packet.was ∙ ap Ok c.in-Some.is) c.take_carried.ensures.same c.take_carried.ensures.out
    c.take_carried.ensures.others c.take_carried.ensures.took c.take_carried.ensures.ring c.take_carried.ensures.none)
    c.hear-answers.ensures.takes))

pub returns-in_err-make_room-clause-keeps : goal.returns-in_err-make_room-clause-keeps
returns-in_err-make_room-clause-keeps g c = on_err_all c.from_residual.result (keeps_as c.args.self.now.links c.self.inside.links (ap (λ cell. cell.links) c.self.view_is))

pub returns-in_err-packet-clause-keeps : goal.returns-in_err-packet-clause-keeps
returns-in_err-packet-clause-keeps g c = on_err_all c.from_residual-in_err-packet.result (subst (λ links. KeepsEnds links c.take_carried.new.self) (ap (λ cell. cell.links) c.self.view_is)
    (taken_keeps c.args.from c.self.inside.links c.take_carried.new.self c.take_carried.ensures.same c.take_carried.ensures.out c.take_carried.ensures.others c.take_carried.ensures.ring))

pub returns-clause-keeps : goal.returns-clause-keeps
returns-clause-keeps g c = on_err_all c.deliver_all.result (subst (λ links. KeepsEnds links c.take_carried.new.self) (ap (λ cell. cell.links) c.self.view_is)
    (taken_keeps c.args.from c.self.inside.links c.take_carried.new.self c.take_carried.ensures.same c.take_carried.ensures.out c.take_carried.ensures.others c.take_carried.ensures.ring))
