-- Within the making of the links of a run: the ends that its nodes have so far.
use Rattle.std.specs.Prelude.{◌≡◌, ◌≢◌, ℕ, ◌+◌, ◌<◌, ◌≤◌, true, List, [], ◌∷◌, ◌++◌, Some, length, slice_get}
use Rattle.qs_book_script.specs.declared.script.FaultLine.{FaultLine}
use Rattle.qs_cell_peers.specs.Links.{LinksValue, into_of, out_of}
use Rattle.qs_cell_peers.specs.Peers.{is_peer, place}
use Rattle.qs_link.specs.Lane.{DrawValue}
use Rattle.qs_link.specs.Plan.{OutgoingValue}
use Rattle.qs_link.specs.declared.outgoing.LinkFault.{LinkFault}
use Rattle.qs_packet.specs.declared.packet.Packet.{Packet}
use Rattle.qs_world_rounds.specs.Seats.{AreLinksOf}
use Rattle.qs_world_sites.specs.Seats.{IsNewLink, plan_between}
use Rattle.qs_world_sites.specs.declared.linking.Ends.{Ends}

-- ---- the links between two nodes

-- one link more, whose ends stand behind the others
pub record AddsLink (plan : List LinkFault) (out new_out : List OutgoingValue) (into new_into : List (DrawValue Packet)) : Type 0 where
  pub from : OutgoingValue
  pub to : DrawValue Packet
  pub out_is : new_out ≡ out ++ from ∷ []
  pub into_is : new_into ≡ into ++ to ∷ []
  pub is_new : IsNewLink plan from to

-- one from node n to node m, and one back; their ends were a and b
pub record Joins (lines : List FaultLine) (n m : ℕ) (a new_a b new_b : Ends) : Type 0 where
  pub there : AddsLink (plan_between n m lines) a.out new_a.out b.into new_b.into
  pub back : AddsLink (plan_between m n lines) b.out new_b.out a.into new_a.into

-- the link from node n to node m stands at its places among the ends of both
pub record IsMade (lines : List FaultLine) (n m : ℕ) (a b : Ends) : Type 0 where
  pub from : OutgoingValue
  pub to : DrawValue Packet
  pub out_is : slice_get a.out (place n m) ≡ Some from
  pub into_is : slice_get b.into (place m n) ≡ Some to
  pub is_new : IsNewLink (plan_between n m lines) from to

-- ---- those of one node more

-- others may have come in behind them
pub record Extends (old new : Ends) : Type 0 where
  pub out : List OutgoingValue
  pub into : List (DrawValue Packet)
  pub out_is : new.out ≡ old.out ++ out
  pub into_is : new.into ≡ old.into ++ into

-- as many as a node of a run of so many nodes has
pub record IsWide (size : ℕ) (ends : Ends) : Type 0 where
  pub out : length ends.out + 1 ≡ size
  pub into : length ends.into + 1 ≡ size

pub record AreWide (all : List Ends) : Type 0 where
  pub each : (n : ℕ) (ends : Ends) → slice_get all n ≡ Some ends → IsWide (length all) ends

-- node n, which had no links with node k so far, now has them; b are the ends of node k
pub record IsJoined (lines : List FaultLine) (n k : ℕ) (old new b : Ends) : Type 0 where
  pub extends : Extends old new
  pub wide : IsWide (k + 1) new
  pub there : IsMade lines n k new b
  pub back : IsMade lines k n b new

-- the nodes below n have links with the one that comes in, whose ends are b
pub record JoinsBelow (lines : List FaultLine) (n : ℕ) (old new : List Ends) (b : Ends) : Type 0 where
  pub wide : IsWide (n + 1) b
  pub rest : (m : ℕ) → n ≤ m → slice_get new m ≡ slice_get old m
  pub each : (m : ℕ) (x y : Ends) → m < n → slice_get old m ≡ Some x → slice_get new m ≡ Some y → IsJoined lines m (length old) x y b

-- ---- those of all nodes so far

pub record AreJoined (lines : List FaultLine) (all : List Ends) : Type 0 where
  pub wide : AreWide all
  pub made : (n m : ℕ) (a b : Ends) → slice_get all n ≡ Some a → slice_get all m ≡ Some b → n ≢ m → IsMade lines n m a b

-- ---- as links

-- those of node n of a run of so many are these ends
pub record IsLinksOver (size n : ℕ) (ends : Ends) (links : LinksValue) : Type 0 where
  pub own : AreLinksOf size (record { 0 = n }) links
  pub out : (m : ℕ) → is_peer size n m ≡ true → slice_get ends.out (place n m) ≡ Some (out_of links m)
  pub into : (m : ℕ) → is_peer size n m ≡ true → slice_get ends.into (place n m) ≡ Some (into_of links m)

-- by number
pub record AreLinksOver (size : ℕ) (all : List Ends) (links : List LinksValue) : Type 0 where
  pub count : length links ≡ length all
  pub each : (n : ℕ) (ends : Ends) (l : LinksValue) → slice_get all n ≡ Some ends → slice_get links n ≡ Some l → IsLinksOver size n ends l
