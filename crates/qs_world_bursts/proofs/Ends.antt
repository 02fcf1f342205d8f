-- The ends of a link, one act after another: what was put and pushed, and whose ring is popped.
use Rattle.std.proofs.Common.{◌≡◌, ◌∙◌, ap, sym, arith, List, [], ◌∷◌, ◌++◌, drop, length}
use Rattle.std.proofs.Math.Seq.{drop-append_seam}
use Rattle.qs_cell_peers.proofs.Putting.{none_then}
use Rattle.qs_link.specs.Lane.{DrawValue, Drawn}
use Rattle.qs_link.specs.Plan.{OutgoingValue, PutNone}
use Rattle.qs_link.specs.Planned.{PutAll}
use Rattle.qs_packet.specs.declared.packet.Packet.{Packet}
use Rattle.rtrb.specs.Ring.{SameConsumer, received}

pub consumer_on : (i j k : DrawValue Packet) → SameConsumer i.ring j.ring → SameConsumer j.ring k.ring → SameConsumer i.ring k.ring
consumer_on i j k p q = grind (arith, p, q)

-- pushed behind what was put
pub none_behind : (xs : List Packet) (o p q : OutgoingValue) → PutAll xs o p → PutNone p q → PutAll xs o q
none_behind [] o p q puts none = none_then o p q puts none
none_behind (x ∷ xs) o p q puts none = record { pushed = puts.pushed; after = puts.after; none = puts.none; one = puts.one; others = none_behind xs puts.after p q puts.others none }

-- ---- what was popped since

abbrev pub on_of : DrawValue Packet → DrawValue Packet → List Packet
on_of old new = drop (length (received old.ring)) (received new.ring)

module _ (old new : DrawValue Packet) (drawn : Drawn [] old new) where
  on_is : drawn.on ≡ on_of old new
  on_is = sym (ap (λ (l : List Packet). drop (length (received old.ring)) l) drawn.received ∙ drop-append_seam (received old.ring) drawn.on)

  pub inbox_on : new.inbox ≡ old.inbox ++ on_of old new
  inbox_on = sym drawn.inbox ∙ ap (λ (l : List Packet). old.inbox ++ l) on_is

  pub received_on : received new.ring ≡ received old.ring ++ on_of old new
  received_on = drawn.received ∙ ap (λ (l : List Packet). received old.ring ++ l) on_is
