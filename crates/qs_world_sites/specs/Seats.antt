-- The sites as a run of a script begins: each node over its disk, with its clients at the first of their lines, links on which nothing is yet, and the order
-- of the actors.
use Rattle.std.specs.Prelude.{◌≡◌, ◌≢◌, ℕ, zero, suc, ◌+◌, ◌==◌, ◌&&◌, ◌||◌, Bool, List, [], ◌∷◌, ◌++◌, length, fold, Option, Some, None, slice_get, if◌then◌else◌}
use Rattle.std.specs.Global.{Global}
use Rattle.std.specs.List.{find, flat_map, list_any}
use Rattle.qs_base.specs.declared.identifiers.ClientNo.{ClientNo}
use Rattle.qs_book_script.specs.declared.script.FaultLine.{FaultLine}
use Rattle.qs_book_script.specs.declared.script.Planned.{Planned}
use Rattle.qs_book_script.specs.declared.script.Planned.TheVariants as planned
use Rattle.qs_book_script.specs.declared.script.Script.{Script}
use Rattle.qs_book_script.specs.declared.script.Seat.{Seat}
use Rattle.qs_cell_peers.specs.Links.{into_of, out_of}
use Rattle.qs_disk.specs.Disk.{DiskState}
use Rattle.qs_link.specs.Lane.{DrawValue, IsFifo, IsLane, on_way}
use Rattle.qs_link.specs.Plan.{IsFresh, OutgoingValue, holds_none, is_of, packet_of}
use Rattle.qs_link.specs.declared.outgoing.LinkFault.{LinkFault}
use Rattle.qs_link.specs.declared.outgoing.LinkFault.TheVariants as faults
use Rattle.qs_packet.specs.declared.packet.Packet.{Packet}
use Rattle.qs_world_plans.specs.Waiting.{client_count}
use Rattle.qs_world_rounds.specs.Rounds.{Cast}
use Rattle.qs_world_rounds.specs.Seats.{BeginsAt, seated_below}
use Rattle.qs_world_sites.specs.Sites.{SitesValue, links_of}
use Rattle.qs_world_sites.specs.declared.turn.Turn.{Turn}

-- ---- what a script has planned for a link

-- the line is of a packet of that link
abbrev pub is_between : ℕ → ℕ → ℕ → ℕ → Bool
is_between n m from to = (from == n) && (to == m)

abbrev pub fault_on : ℕ → ℕ → Planned → List LinkFault
fault_on n m (planned.Drop from to packet) = if is_between n m from.0 to.0 then faults.Drop packet ∷ [] else []
fault_on n m (planned.Again from to packet) = if is_between n m from.0 to.0 then faults.Again packet ∷ [] else []
fault_on n m (planned.Hold from to packet count) = if is_between n m from.0 to.0 then faults.Hold packet count ∷ [] else []
fault_on n m _ = []

-- a packet has the first fault that names it, and one that is held back is held back for at least one
abbrev pub add_fault : List LinkFault → LinkFault → List LinkFault
add_fault plan fault = if holds_none fault || list_any (is_of (packet_of fault)) plan then plan else plan ++ fault ∷ []

-- of the link from node n to node m, in the order of the lines
abbrev pub plan_between : ℕ → ℕ → List FaultLine → List LinkFault
plan_between n m lines = fold add_fault [] (flat_map (λ line. fault_on n m line.fault) lines)

-- nothing was put to it
pub record IsNewLink (plan : List LinkFault) (o : OutgoingValue) (i : DrawValue Packet) : Type 0 where
  pub lane : IsLane o.feed i
  pub fifo : IsFifo o.feed i
  pub empty : on_way o.feed i ≡ []
  pub fresh : IsFresh plan o

-- ---- the order of the actors: the nodes by number, and then the clients by number

abbrev pub nodes_below : ℕ → List Turn
nodes_below zero = []
nodes_below (suc n) = nodes_below n ++ record { site = n; place = 0 } ∷ []

abbrev pub is_seat_of : ClientNo → Seat → Bool
is_seat_of client seat = seat.client.0 == client.0

-- at its site a client stands behind the node and the clients there that have lower numbers
abbrev pub turn_at : ClientNo → Option Seat → List Seat → List Turn
turn_at client None seats = []
turn_at client (Some seat) seats = record { site = seat.node.0; place = length (seated_below seat.node seats client.0) + 1 } ∷ []

abbrev pub turns_below : List Seat → ℕ → List Turn
turns_below seats zero = []
turns_below seats (suc n) = turns_below seats n ++ turn_at (record { 0 = n }) (find (is_seat_of (record { 0 = n })) seats) seats

unfoldable pub turns_of : ℕ → List Seat → List Turn
turns_of size seats = nodes_below size ++ turns_below seats client_count

-- ---- all of them, over these disks

pub record HasBegun {D : Type 0} (told : Type 0) (state : D → DiskState) (own : D → ℕ) (alloc : Global) (script : Script) (disks : List D) (all : SitesValue D) : Type 0 where
  pub count : length all.sites ≡ length disks
  pub each : (n : ℕ) (disk : D) (site : Cast D) → slice_get disks n ≡ Some disk → slice_get all.sites n ≡ Some site
      → BeginsAt told state own alloc script (length disks) (record { 0 = n }) disk site
  pub links : (n m : ℕ) (a b : Cast D) → slice_get all.sites n ≡ Some a → slice_get all.sites m ≡ Some b → n ≢ m
      → IsNewLink (plan_between n m script.faults) (out_of (links_of a) m) (into_of (links_of b) n)
  pub turns : all.turns ≡ turns_of (length disks) script.seats
