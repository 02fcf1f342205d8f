-- A node's ends of its links: one to each other node of the run, and one from it.
use Rattle.std.specs.Prelude.{◌≡◌, ◌≢◌, [], ◌++◌, ◌+◌, ◌==◌, ◌<◌, ℕ, true, not, Bool, List, IfOk, OnOk, Result, get_or, length, nat_lt, if◌then◌else◌}
use Rattle.std.specs.List.{filter, list_any}
use Rattle.qs_base.specs.declared.identifiers.NodeNo.{NodeNo}
use Rattle.qs_base.specs.declared.memory.NoMemory.{NoMemory}
use Rattle.qs_link.specs.Lane.{DrawValue, Drawn, IsFifo, IsFront, IsLane, on_way}
use Rattle.qs_link.specs.Plan.{OutgoingValue, PutNone}
use Rattle.qs_link.specs.Planned.{Carried, PutAll}
use Rattle.qs_node_step.specs.declared.trace.Step.{Step}
use Rattle.qs_packet.specs.declared.packet.Packet.{Packet}
use Rattle.rtrb.specs.Ring.{SameConsumer, SameProducer, known_free, known_items}
use Rattle.qs_cell_peers.specs.NoEnds.{no_into, no_out}
use Rattle.qs_cell_peers.specs.Peers.{is_peer, is_to, place}

-- what is seen of them
pub record LinksValue : Type 0 where
  pub size : ℕ  -- how many nodes the run has
  pub me : NodeNo
  pub out : List OutgoingValue  -- by the numbers of the other nodes
  pub into : List (DrawValue Packet)

abbrev pub is_peer_of : LinksValue → ℕ → Bool
is_peer_of links m = is_peer links.size links.me.0 m

-- the ends of the links to node m and from it, and any where there are none
abbrev pub out_of : LinksValue → ℕ → OutgoingValue
out_of links m = get_or links.out (place links.me.0 m) no_out

abbrev pub into_of : LinksValue → ℕ → DrawValue Packet
into_of links m = get_or links.into (place links.me.0 m) no_into

-- how many packets of node m were carried
abbrev pub carried_from : LinksValue → ℕ → ℕ
carried_from links m = if is_peer_of links m then length (into_of links m).inbox else 0

-- a packet stands in the inbox of a link, and in one of these
abbrev pub has_packet : DrawValue Packet → Bool
has_packet end = nat_lt 0 (length end.inbox)

abbrev pub has_carried : LinksValue → Bool
has_carried links = list_any has_packet links.into

-- what a step puts, and whether it puts anything
abbrev pub puts_of : Step → List Packet
puts_of step = step.put

abbrev pub puts_any : Step → Bool
puts_any step = not (length step.put == 0)

-- there are as many of one kind as of the other, no more than other nodes have numbers, and the node is one of the run
pub record AreLinks (n : NodeNo) (out : List OutgoingValue) (into : List (DrawValue Packet)) : Type 0 where
  pub in_run : n.0 < length out + 1
  pub both : length into ≡ length out
  pub few : length out < 256

-- they are the same node's
pub record IsSameNode (old new : LinksValue) : Type 0 where
  pub size : new.size ≡ old.size
  pub me : new.me ≡ old.me

-- the ends to peers, all but this one's
abbrev pub SameOut : (ℕ → Bool) → LinksValue → LinksValue → Type 0
SameOut but old new = (m : ℕ) → is_peer_of old m ≡ true → but m ≡ true → out_of new m ≡ out_of old m

abbrev pub SameInto : (ℕ → Bool) → LinksValue → LinksValue → Type 0
SameInto but old new = (m : ℕ) → is_peer_of old m ≡ true → but m ≡ true → into_of new m ≡ into_of old m

-- whatever was pushed or popped, each end is of the ring that it was of
pub record StayLinked (old new : LinksValue) : Type 0 where
  pub same : IsSameNode old new
  pub out : (m : ℕ) → is_peer_of old m ≡ true → SameProducer (out_of old m).feed.ring (out_of new m).feed.ring
  pub into : (m : ℕ) → is_peer_of old m ≡ true → SameConsumer (into_of old m).ring (into_of new m).ring

-- each link has got the packets for its node, in order
pub record HasPut (packets : List Packet) (old new : LinksValue) : Type 0 where
  pub same : IsSameNode old new
  pub put : (m : ℕ) → is_peer_of old m ≡ true → PutAll (filter (is_to m) packets) (out_of old m) (out_of new m)
  pub into : SameInto (λ m. true) old new

-- or as many of them, the first ones first, as memory was had for
pub record HasPutSome (packets : List Packet) (old new : LinksValue) : Type 0 where
  pub front : List Packet
  pub rest : List Packet
  pub is : packets ≡ front ++ rest
  pub put : HasPut front old new

-- ---- in a burst, in which the other ends may be used in other threads

-- packets were popped from the ring of each link to this node, and stand behind those in its inbox
pub record Pulls (old new : LinksValue) : Type 0 where
  pub same : IsSameNode old new
  pub out : SameOut (λ m. true) old new
  pub into : (m : ℕ) → is_peer_of old m ≡ true → Drawn [] (into_of old m) (into_of new m)

-- all that the ring of each link held as it was looked into, so that its end knows of none there
abbrev pub AreEmptied : LinksValue → Type 0
AreEmptied links = (m : ℕ) → is_peer_of links m ≡ true → known_items (into_of links m).ring ≡ []

-- packets went on from the outboxes into the rings, while these took them
pub record Pushes (old new : LinksValue) : Type 0 where
  pub same : IsSameNode old new
  pub out : (m : ℕ) → is_peer_of old m ≡ true → PutNone (out_of old m) (out_of new m)
  pub full : (m : ℕ) → is_peer_of old m ≡ true → (out_of new m).feed.outbox ≢ [] → known_free (out_of new m).feed.ring ≡ 0
  pub into : SameInto (λ m. true) old new

-- nothing was put to a link, and no ring was popped
pub record KeepsEnds (old new : LinksValue) : Type 0 where
  pub same : IsSameNode old new
  pub out : SameOut (λ m. true) old new
  pub ring : (m : ℕ) → is_peer_of old m ≡ true → (into_of new m).ring ≡ (into_of old m).ring

-- ---- as a round begins

-- a link between two nodes was carried: from its ends o and i to p and j
pub record HasCarried (result : Result ℕ NoMemory) (o p : OutgoingValue) (i j : DrawValue Packet) : Type 0 where
  pub lane : IsLane p.feed j
  pub feed : SameProducer o.feed.ring p.feed.ring
  pub draw : SameConsumer i.ring j.ring
  pub carried : Carried o p i j
  pub front : IsFront i.inbox j.inbox
  pub all : OnOk result (j.inbox ≡ on_way o.feed i)
  pub held : IfOk result (λ n. n ≡ length j.inbox)
  pub fifo : IsFifo o.feed i × IsFifo p.feed j

-- and all else of the two nodes is as it was
pub record CarriesLink (result : Result ℕ NoMemory) (from_old from_new to_old to_new : LinksValue) : Type 0 where
  pub to_same : IsSameNode to_old to_new
  pub from_same : IsSameNode from_old from_new
  pub to_out : SameOut (λ m. true) to_old to_new
  pub to_into : SameInto (λ m. not (m == from_old.me.0)) to_old to_new
  pub from_out : SameOut (λ m. not (m == to_old.me.0)) from_old from_new
  pub from_into : SameInto (λ m. true) from_old from_new
  pub carried : HasCarried result (out_of from_old to_old.me.0) (out_of from_new to_old.me.0) (into_of to_old from_old.me.0) (into_of to_new from_old.me.0)
