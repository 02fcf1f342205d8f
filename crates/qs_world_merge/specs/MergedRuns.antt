-- The local runs of all nodes, told by their merge, are one run.
use Rattle.std.specs.Prelude.{◌≡◌, ℕ, ◌<◌, ◌≤◌, ⊤, List, [], ◌∷◌, map}
use Rattle.qs_session_channels.specs.End.{Packet}
use Rattle.qs_session_channels.specs.Network.{Among}
use Rattle.qs_world.specs.World.{Opening, Parcel}
use Rattle.qs_world_packets.specs.PacketMoves.{Source, Brought, Move, Step, Cut, Stop, Rise, Meet, Take, Tick, moved}
use Rattle.qs_world_packets.specs.PacketRuns.{Run}
use Rattle.qs_world_packets.specs.PacketWorld.{PacketWorld, start}
use Rattle.qs_world_merge.specs.LocalRuns.{LocalRun, TimedMove, client_at, event_in, node_of}
use Rattle.qs_world_merge.specs.MergedByKey.{InKeyOrder, of_node}
use Rattle.qs_world_merge.specs.SameAt.{SameAt}

abbrev pub move_key : TimedMove → ℕ × ℕ
move_key t = (t.stamp, node_of t.move)

-- the moves alone
abbrev pub untimed : List TimedMove → List Move
untimed merged = map (λ t. t.move) merged

-- ---- each packet that was taken was put

-- by its sender, at any time in its own run; ends has the world to which each node's run leads
abbrev pub PutBy : ℕ → (ℕ → PacketWorld) → ℕ → ℕ → Packet Parcel → Type 0
PutBy size ends n m p = (m < size) × Among ((ends m).network.packets m n) p

abbrev pub SourcePut : ℕ → (ℕ → PacketWorld) → ℕ → Source → Type 0
SourcePut size ends n (Brought m p) = PutBy size ends n m p
SourcePut size ends n source = ⊤

abbrev pub WasPut : ℕ → (ℕ → PacketWorld) → Move → Type 0
WasPut size ends (Step n stamp free source) = SourcePut size ends n source
WasPut size ends (Cut n stamp free source is_kept cause) = SourcePut size ends n source
WasPut size ends (Stop n stamp cause) = ⊤
WasPut size ends (Rise n stamp inc) = ⊤
WasPut size ends (Meet n stamp m p) = PutBy size ends n m p
WasPut size ends (Take n m p) = PutBy size ends n m p
WasPut size ends (Tick n m stamp) = ⊤

abbrev pub AllPut : ℕ → (ℕ → PacketWorld) → List TimedMove → Type 0
AllPut size ends [] = ⊤
AllPut size ends (t ∷ ts) = WasPut size ends t.move × AllPut size ends ts

-- ---- the theorem

-- the local runs of all nodes, told by their merge
pub record AreLocalRuns (o : Opening) (merged : List TimedMove) (ends : ℕ → PacketWorld) : Type 0 where
  pub in_order : InKeyOrder move_key o.size (0, 0) merged
  pub each : (n : ℕ) → n < o.size → LocalRun (client_at o) n 0 (start o) (of_node move_key n merged) (ends n)
  pub put : AllPut o.size ends merged

-- each event is the one that came
abbrev pub EventsAre : PacketWorld → List TimedMove → Type 0
EventsAre world [] = ⊤
EventsAre world (t ∷ ts) = (event_in world t.move ≡ t.event) × EventsAre (moved t.move world) ts

-- one run of all nodes, in which each has what it has by itself
pub record IsOneRun (o : Opening) (merged : List TimedMove) (ends : ℕ → PacketWorld) : Type 0 where
  pub world : PacketWorld
  pub run : Run (start o) (untimed merged) world
  pub events : EventsAre (start o) merged
  pub each : (n : ℕ) → n < o.size → SameAt (client_at o) n world (ends n)
  pub outside : (n : ℕ) → o.size ≤ n → SameAt (client_at o) n world (start o)

abbrev pub EachMergeRuns : Type 0
EachMergeRuns = (o : Opening) (merged : List TimedMove) (ends : ℕ → PacketWorld) → AreLocalRuns o merged ends → IsOneRun o merged ends
