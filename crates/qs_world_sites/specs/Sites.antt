-- The sites of a run, each a node with its clients, and what is carried as a round begins: in the lanes of each site, and on the links between them.
use Rattle.std.specs.Prelude.{◌≡◌, ◌≢◌, ℕ, Bool, List, length, Some, Ok, slice_get}
use Rattle.qs_cell.specs.Starts.{journal_of}
use Rattle.qs_cell.specs.Visits.{Grows}
use Rattle.qs_cell_peers.specs.Links.{HasCarried, LinksValue, StayLinked, has_carried, into_of, out_of}
use Rattle.qs_link.specs.Lane.{DrawValue, IsLane}
use Rattle.qs_link.specs.Plan.{OutgoingValue}
use Rattle.qs_packet.specs.declared.packet.Packet.{Packet}
use Rattle.qs_world_rounds.specs.Rounds.{CarriesAll, Cast, IsSameStart}
use Rattle.qs_world_sites.specs.declared.turn.Turn.{Turn}

-- the sites by the numbers of their nodes, and whom each place of a round's order means
pub record SitesValue (D : Type 0) : Type 0 where
  pub sites : List (Cast D)
  pub turns : List Turn

-- how many actors there are
abbrev pub count_of : {D : Type 0} → SitesValue D → ℕ
count_of all = length all.turns

abbrev pub links_of : {D : Type 0} → Cast D → LinksValue
links_of site = site.node.links

-- P of each site before and after
pub record Each {D : Type 0} (P : Cast D → Cast D → Type 0) (old new : List (Cast D)) : Type 0 where
  pub count : length new ≡ length old
  pub each : (n : ℕ) (a b : Cast D) → slice_get old n ≡ Some a → slice_get new n ≡ Some b → P a b

-- the node keeps what it was started with, and only adds to its journal
pub record GoesOn {D : Type 0} (old new : Cast D) : Type 0 where
  pub start : IsSameStart old.node new.node
  pub grows : Grows (journal_of old.node) (journal_of new.node)

-- and its links are ends of the same lanes
pub record StaysLinked {D : Type 0} (old new : Cast D) : Type 0 where
  pub goes_on : GoesOn old new
  pub linked : StayLinked (links_of old) (links_of new)

-- nothing happens at the node
pub record HasSameCell {D : Type 0} (old new : Cast D) : Type 0 where
  pub node : new.node.seat.node ≡ old.node.seat.node
  pub stays : StaysLinked old new

-- ---- the links between them

-- each site has the number that it stands at, and both ends of each link are theirs
pub record AreLinked {D : Type 0} (sites : List (Cast D)) : Type 0 where
  pub size : (n : ℕ) (a : Cast D) → slice_get sites n ≡ Some a → (links_of a).size ≡ length sites
  pub numbers : (n : ℕ) (a : Cast D) → slice_get sites n ≡ Some a → (links_of a).me.0 ≡ n
  pub lanes : (n m : ℕ) (a b : Cast D) → slice_get sites n ≡ Some a → slice_get sites m ≡ Some b → n ≢ m → IsLane (out_of (links_of a) m).feed (into_of (links_of b) n)

-- a packet that was carried to a node waits there
abbrev pub has_packets : {D : Type 0} → Cast D → Bool
has_packets site = has_carried (links_of site)

-- ---- as a round begins

-- what stands in the lanes between the node and its clients is carried to their ends
abbrev pub CarriesLanes : {D : Type 0} → Cast D → Cast D → Type 0
CarriesLanes old new = CarriesAll old.node new.node old.clients new.clients

-- all but the links is as it was, and they are ends of the same lanes
pub record HasOtherLinks {D : Type 0} (old new : Cast D) : Type 0 where
  pub is : new ≡ record old { node = record old.node { links = new.node.links } }
  pub linked : StayLinked (links_of old) (links_of new)

-- all that stood on a link, from its ends o and i to p and j
pub record WasCarried (o p : OutgoingValue) (i j : DrawValue Packet) : Type 0 where
  pub held : ℕ
  pub carried : HasCarried (Ok held) o p i j

-- on each link
pub record AreLinksCarried {D : Type 0} (old new : List (Cast D)) : Type 0 where
  pub others : Each HasOtherLinks old new
  pub links : (n m : ℕ) (a b c d : Cast D) → slice_get old n ≡ Some a → slice_get new n ≡ Some b → slice_get old m ≡ Some c → slice_get new m ≡ Some d → n ≢ m
      → WasCarried (out_of (links_of a) m) (out_of (links_of b) m) (into_of (links_of c) n) (into_of (links_of d) n)

-- first in the lanes, and then on the links
pub record AreCarried {D : Type 0} (old new : List (Cast D)) : Type 0 where
  pub mid : List (Cast D)
  pub lanes : Each CarriesLanes old mid
  pub links : AreLinksCarried mid new
