-- Which faults that a script asks for are the same, or are on the same packet.
use Rattle.std.specs.Prelude.{ℕ, Bool, true, false, not, ◌&&◌, ◌==◌, if◌then◌else◌}
use Rattle.qs_base.specs.Order.{same_bytes}
use Rattle.qs_book_journal.specs.declared.script_line.PointKind.{PointKind}
use Rattle.qs_book_journal.specs.declared.script_line.PointKind.TheVariants as kinds
use Rattle.qs_book_journal.specs.declared.script_line.Point.{Point}
use Rattle.qs_book_script.specs.declared.script.FaultLine.{FaultLine}
use Rattle.qs_book_script.specs.declared.script.Planned.{Planned}
use Rattle.qs_book_script.specs.declared.script.Planned.TheVariants as plans

abbrev pub is_crash : ℕ → ℕ → Planned → Bool
is_crash node event (plans.Crash other number) = (other.0 == node) && (number == event)
is_crash node event _ = false

abbrev pub is_stop : ℕ → ℕ → Planned → Bool
is_stop node call (plans.Stop other number) = (other.0 == node) && (number == call)
is_stop node call _ = false

abbrev pub same_kind : PointKind → PointKind → Bool
same_kind kinds.Serve kinds.Serve = true
same_kind kinds.Vote kinds.Vote = true
same_kind kinds.Decide kinds.Decide = true
same_kind kinds.Learn kinds.Learn = true
same_kind _ _ = false

abbrev pub same_side : Bool → Bool → Bool
same_side one other = if one then other else not other

abbrev pub same_point : Point → Point → Bool
same_point one other =
    same_side one.after other.after && (same_kind one.kind other.kind && same_bytes one.label other.label)

abbrev pub is_point : ℕ → Point → Planned → Bool
is_point node point (plans.At other one) = (other.0 == node) && same_point one point
is_point node point _ = false

abbrev pub same_packet : ℕ → ℕ → ℕ → ℕ → ℕ → ℕ → Bool
same_packet from to packet from2 to2 packet2 = (from2 == from) && ((to2 == to) && (packet2 == packet))

-- a fault on this packet, of whatever kind
abbrev pub is_on : ℕ → ℕ → ℕ → Planned → Bool
is_on from to packet (plans.Drop from2 to2 packet2) = same_packet from to packet from2.0 to2.0 packet2
is_on from to packet (plans.Again from2 to2 packet2) = same_packet from to packet from2.0 to2.0 packet2
is_on from to packet (plans.Hold from2 to2 packet2 count) = same_packet from to packet from2.0 to2.0 packet2
is_on from to packet _ = false

-- the same fault, or a fault on the same packet
abbrev pub clashes : Planned → Planned → Bool
clashes (plans.Crash node event) other = is_crash node.0 event other
clashes (plans.Stop node call) other = is_stop node.0 call other
clashes (plans.At node point) other = is_point node.0 point other
clashes (plans.Drop from to packet) other = is_on from.0 to.0 packet other
clashes (plans.Again from to packet) other = is_on from.0 to.0 packet other
clashes (plans.Hold from to packet count) other = is_on from.0 to.0 packet other

abbrev pub clashes_with : Planned → FaultLine → Bool
clashes_with planned line = clashes planned line.fault
