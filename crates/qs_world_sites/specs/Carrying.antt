-- Within the carrying of a round: the links that were carried so far.
use Rattle.std.specs.Prelude.{◌≡◌, ◌≢◌, ℕ, Bool, true, false, List, Result, Ok, Err, Some, slice_get}
use Rattle.qs_base.specs.declared.memory.NoMemory.{NoMemory}
use Rattle.qs_cell_peers.specs.Links.{HasCarried, into_of, out_of}
use Rattle.qs_link.specs.Lane.{DrawValue}
use Rattle.qs_link.specs.Plan.{OutgoingValue}
use Rattle.qs_packet.specs.declared.packet.Packet.{Packet}
use Rattle.qs_world_rounds.specs.Rounds.{Cast}
use Rattle.qs_world_sites.specs.Sites.{Each, HasOtherLinks, WasCarried, links_of}

abbrev pub HasSameLinks : {D : Type 0} → Cast D → Cast D → Type 0
HasSameLinks old new = links_of new ≡ links_of old

-- what comes of a link, with ends o and i before, and p and j after
abbrev pub Comes : Type 1
Comes = OutgoingValue → OutgoingValue → DrawValue Packet → DrawValue Packet → Type 0

-- its ring was looked at from both ends, and what stood on it was carried, as far as memory was had for
pub record WasLookedAt (o p : OutgoingValue) (i j : DrawValue Packet) : Type 0 where
  pub result : Result ℕ NoMemory
  pub carried : HasCarried result o p i j

-- all of it was carried where no memory was refused
abbrev pub WasMet : Result (Unit {0}) NoMemory → OutgoingValue → OutgoingValue → DrawValue Packet → DrawValue Packet → Type 0
WasMet (Ok done) o p i j = WasCarried o p i j
WasMet (Err refused) o p i j = WasLookedAt o p i j

-- this came of those from node n to node m for which that says so, and nothing of the others
pub record CarriesWhere {D : Type 0} (Came : Comes) (done : ℕ → ℕ → Bool) (old new : List (Cast D)) : Type 0 where
  pub others : Each HasOtherLinks old new
  pub moved : (n m : ℕ) (a b c d : Cast D) → slice_get old n ≡ Some a → slice_get new n ≡ Some b → slice_get old m ≡ Some c → slice_get new m ≡ Some d → n ≢ m → done n m ≡ true
      → Came (out_of (links_of a) m) (out_of (links_of b) m) (into_of (links_of c) n) (into_of (links_of d) n)
  pub kept : (n m : ℕ) (a b c d : Cast D) → slice_get old n ≡ Some a → slice_get new n ≡ Some b → slice_get old m ≡ Some c → slice_get new m ≡ Some d → n ≢ m → done n m ≡ false
      → (out_of (links_of b) m ≡ out_of (links_of a) m) × (into_of (links_of d) n ≡ into_of (links_of c) n)
