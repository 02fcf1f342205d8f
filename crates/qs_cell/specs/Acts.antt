-- An act of a node in a burst. The other ends of its links may be used meanwhile, each in a thread of its own: packets are popped from the rings and pushed into them, and of the
-- other ends nothing is said.
use Rattle.std.specs.Prelude.{◌≡◌, ◌⊎◌, ◌+◌, ◌-◌, ◌%◌, ◌&&◌, ℕ, zero, suc, Bool, true, false, List, length, get_or, is_none, is_some, nat_lt, Option, Some, None, if◌then◌else◌}
use Rattle.qs_cell_chronicle.specs.Carried.{Seen}
use Rattle.qs_cell_chronicle.specs.Chronicle.{in_act}
use Rattle.qs_cell_peers.specs.Links.{AreEmptied, HasPut, HasPutSome, KeepsEnds, LinksValue, Pulls, Pushes, carried_from}
use Rattle.qs_disk.specs.Disk.{DiskState}
use Rattle.qs_link.specs.declared.ends.NodeEnds.{NodeEnds}
use Rattle.qs_cell.specs.Hearing.{BreaksHearing, Hears, Post}
use Rattle.qs_cell.specs.State.{IsSeenAs, carried_of, cause_of}
use Rattle.qs_cell.specs.Visits.{IsBroken, Turns, due, sources_of}
use Rattle.qs_cell.specs.WholeVisits.{put_since, steps_in}
use Rattle.qs_cell.specs.declared.cell.EventSource.{EventSource}
use Rattle.qs_cell.specs.declared.cell.EventSource.TheVariants as sources
use Rattle.qs_cell.specs.declared.state.CellState.{CellState}

-- ---- which source is asked

-- the acts of the node so far
abbrev pub acts_in : {D : Type 0} → CellState D → ℕ
acts_in node = (carried_of node).chronicle.told.acts

-- the sources of an act by place: the nodes by number, of which its own has no link, the clients by number, and the queues
abbrev pub source_count : LinksValue → List NodeEnds → ℕ
source_count links ends = links.size + (length ends + 1)

-- the source of its own so far behind the nodes
abbrev pub own_source : List NodeEnds → ℕ → EventSource
own_source ends k = get_or (sources_of ends) k sources.Clock

-- an event is due of the source at that place: a packet was carried from that node, or that source of its own has one
abbrev pub has_event : {D : Type 0} → Post D → ℕ → Bool
has_event post place =
    if nat_lt place post.links.size then is_none (cause_of post.seat.node) && nat_lt 0 (carried_from post.links place)
    else is_some (due (own_source post.seat.ends (place - post.links.size)) post.seat.node post.seat.ends)

-- the first of so many places, from `at` on, for which this says so
abbrev pub first_from : (ℕ → Bool) → ℕ → ℕ → Option ℕ
first_from has at zero = None
first_from has at (suc count) = if has at then Some at else first_from has (at + 1) count

abbrev pub otherwise : Option ℕ → Option ℕ → Option ℕ
otherwise (Some place) later = Some place
otherwise None later = later

-- from `start` on, and then from the first place on
abbrev pub first_around : (ℕ → Bool) → ℕ → ℕ → Option ℕ
first_around has start count = otherwise (first_from has start (count - start)) (first_from has 0 start)

-- each act begins to ask one place further than the one before
abbrev pub asked_of : {D : Type 0} → Post D → Option ℕ
asked_of post = first_around (has_event post) (acts_in post.seat.node % source_count post.links post.seat.ends) (source_count post.links post.seat.ends)

-- ---- its event

-- the next packet of the node with that number, or else the turn of a source of its own
abbrev pub MakesIf : {D : Type 0} → Bool → Type 0 → (D → DiskState) → (D → ℕ) → (D → ℕ) → ℕ → Post D → Post D → Type 0
MakesIf true told state own size place old new = Hears told state own size place old new
MakesIf false told state own size place old new = Turns told state own size (own_source old.seat.ends (place - old.links.size)) old.seat new.seat × (new.links ≡ old.links)

abbrev pub MakesAt : {D : Type 0} → Type 0 → (D → DiskState) → (D → ℕ) → (D → ℕ) → ℕ → Post D → Post D → Type 0
MakesAt told state own size place old new = MakesIf (nat_lt place old.links.size) told state own size place old new

-- where no event is due of any, none is made
abbrev pub MakesAsked : {D : Type 0} → Option ℕ → Type 0 → (D → DiskState) → (D → ℕ) → (D → ℕ) → Post D → Post D → Type 0
MakesAsked None told state own size old new = new ≡ old
MakesAsked (Some place) told state own size old new = MakesAt told state own size place old new

-- ---- an act

abbrev pub in_act_as : Seen → Seen
in_act_as s = record s { told = in_act s.told }

-- packets are pulled, one event is made where one is due, and what its step puts goes to the links and on into the rings
pub record Acts {D : Type 0} (told : Type 0) (state : D → DiskState) (own size : D → ℕ) (old new : Post D) : Type 0 where
  pub begun : Post D
  pub act : IsSeenAs in_act_as old.seat.node begun.seat.node
  pub ends : begun.seat.ends ≡ old.seat.ends
  pub pulls : Pulls old.links begun.links
  pub emptied : AreEmptied begun.links
  pub made : Post D
  pub makes : MakesAsked (asked_of begun) told state own size begun made
  pub put : LinksValue
  pub puts : HasPut (put_since (steps_in old.seat.node) (steps_in made.seat.node)) made.links put
  pub seat : new.seat ≡ made.seat
  pub pushes : Pushes put new.links

-- ---- memory was refused

-- within the event; nothing went to a link
abbrev pub BreaksIf : {D : Type 0} → Bool → Type 0 → (D → DiskState) → (D → ℕ) → (D → ℕ) → ℕ → Post D → Post D → Type 0
BreaksIf true told state own size place old new = BreaksHearing told state own size place old new × KeepsEnds old.links new.links
BreaksIf false told state own size place old new = IsBroken told state own size (own_source old.seat.ends (place - old.links.size)) old.seat new.seat × (new.links ≡ old.links)

abbrev pub BreaksAt : {D : Type 0} → Type 0 → (D → DiskState) → (D → ℕ) → (D → ℕ) → ℕ → Post D → Post D → Type 0
BreaksAt told state own size place old new = BreaksIf (nat_lt place old.links.size) told state own size place old new

abbrev pub BreaksAsked : {D : Type 0} → Option ℕ → Type 0 → (D → DiskState) → (D → ℕ) → (D → ℕ) → Post D → Post D → Type 0
BreaksAsked None told state own size old new = ⊥
BreaksAsked (Some place) told state own size old new = BreaksAt told state own size place old new

-- or the event was made, and what its step put went out in part
pub record PutsSome {D : Type 0} (told : Type 0) (state : D → DiskState) (own size : D → ℕ) (old begun new : Post D) : Type 0 where
  pub made : Post D
  pub makes : MakesAsked (asked_of begun) told state own size begun made
  pub puts : HasPutSome (put_since (steps_in old.seat.node) (steps_in made.seat.node)) made.links new.links
  pub seat : new.seat ≡ made.seat

-- as packets were pulled, in the event, or as what its step put went to the links
pub record BreaksAct {D : Type 0} (told : Type 0) (state : D → DiskState) (own size : D → ℕ) (old new : Post D) : Type 0 where
  pub begun : Post D
  pub act : IsSeenAs in_act_as old.seat.node begun.seat.node
  pub ends : begun.seat.ends ≡ old.seat.ends
  pub pulls : Pulls old.links begun.links
  pub within : (new ≡ begun) ⊎ (BreaksAsked (asked_of begun) told state own size begun new ⊎ PutsSome told state own size old begun new)
