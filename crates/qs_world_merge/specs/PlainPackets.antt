-- The packets that a node takes bear messages alone: of the stamp of the step that posted a message, which the world's packets have, it knows nothing. So
-- its local run is told with packets of any such stamps, and each packet that it takes is, but for that stamp, one that was put.
use Rattle.std.specs.Prelude.{◌≡◌, ℕ, ◌<◌, ⊤, List, [], ◌∷◌}
use Rattle.qs_session_channels.specs.End.{Packet}
use Rattle.qs_session_channels.specs.Network.{Among}
use Rattle.qs_world.specs.World.{Opening, Parcel}
use Rattle.qs_world_packets.specs.PacketMoves.{Source, Commanded, Queues, Clock, Brought, Move, Step, Cut, Stop, Rise, Meet, Take, Tick}
use Rattle.qs_world_packets.specs.PacketSessions.{plain_packet}
use Rattle.qs_world_packets.specs.PacketWorld.{PacketWorld, start}
use Rattle.qs_world_merge.specs.LocalRuns.{LocalRun, TimedMove, client_at}
use Rattle.qs_world_merge.specs.MergedByKey.{InKeyOrder, of_node}
use Rattle.qs_world_merge.specs.MergedRuns.{IsOneRun, move_key}

-- its sender put such a packet, at any time in its own run
pub record PutPlain (size : ℕ) (ends : ℕ → PacketWorld) (n m : ℕ) (p : Packet Parcel) : Type 0 where
  pub in_run : m < size
  pub packet : Packet Parcel
  pub among : Among ((ends m).network.packets m n) packet
  pub same : plain_packet packet ≡ plain_packet p

abbrev pub SourcePlain : ℕ → (ℕ → PacketWorld) → ℕ → Source → Type 0
SourcePlain size ends n (Commanded k) = ⊤
SourcePlain size ends n Queues = ⊤
SourcePlain size ends n Clock = ⊤
SourcePlain size ends n (Brought m p) = PutPlain size ends n m p

abbrev pub WasPlain : ℕ → (ℕ → PacketWorld) → Move → Type 0
WasPlain size ends (Step n stamp free source) = SourcePlain size ends n source
WasPlain size ends (Cut n stamp free source is_kept cause) = SourcePlain size ends n source
WasPlain size ends (Stop n stamp cause) = ⊤
WasPlain size ends (Rise n stamp inc) = ⊤
WasPlain size ends (Meet n stamp m p) = PutPlain size ends n m p
WasPlain size ends (Take n m p) = PutPlain size ends n m p
WasPlain size ends (Tick n m stamp) = ⊤

abbrev pub AllPlain : ℕ → (ℕ → PacketWorld) → List TimedMove → Type 0
AllPlain size ends [] = ⊤
AllPlain size ends (t ∷ ts) = WasPlain size ends t.move × AllPlain size ends ts

-- the local runs of all nodes, told by their merge
pub record ArePlainRuns (o : Opening) (merged : List TimedMove) (ends : ℕ → PacketWorld) : Type 0 where
  pub in_order : InKeyOrder move_key o.size (0, 0) merged
  pub each : (n : ℕ) → n < o.size → LocalRun (client_at o) n 0 (start o) (of_node move_key n merged) (ends n)
  pub put : AllPlain o.size ends merged

-- ---- the same with other stamps

-- a packet whose message was posted with that stamp
abbrev pub restamped : ℕ → Packet Parcel → Packet Parcel
restamped s p = record p { message = record { stamp = s; message = p.message.message } }

abbrev pub restamped_source : ℕ → Source → Source
restamped_source s (Commanded k) = Commanded k
restamped_source s Queues = Queues
restamped_source s Clock = Clock
restamped_source s (Brought m p) = Brought m (restamped s p)

abbrev pub restamped_move : ℕ → Move → Move
restamped_move s (Step n stamp free source) = Step n stamp free (restamped_source s source)
restamped_move s (Cut n stamp free source is_kept cause) = Cut n stamp free (restamped_source s source) is_kept cause
restamped_move s (Stop n stamp cause) = Stop n stamp cause
restamped_move s (Rise n stamp inc) = Rise n stamp inc
restamped_move s (Meet n stamp m p) = Meet n stamp m (restamped s p)
restamped_move s (Take n m p) = Take n m (restamped s p)
restamped_move s (Tick n m stamp) = Tick n m stamp

-- the same moves, but for these stamps
abbrev pub AreAlike : List TimedMove → List TimedMove → Type 0
AreAlike [] [] = ⊤
AreAlike (t ∷ ts) (u ∷ us) = (u.stamp ≡ t.stamp) × (u.event ≡ t.event) × ((s : ℕ) × (u.move ≡ restamped_move s t.move)) × AreAlike ts us
AreAlike _ _ = ⊥

-- some moves that are alike are one run
pub record IsOneRunAlike (o : Opening) (merged : List TimedMove) (ends : ℕ → PacketWorld) : Type 0 where
  pub moves : List TimedMove
  pub alike : AreAlike merged moves
  pub is : IsOneRun o moves ends

abbrev pub EachPlainMergeRuns : Type 0
EachPlainMergeRuns = (o : Opening) (merged : List TimedMove) (ends : ℕ → PacketWorld) → ArePlainRuns o merged ends → IsOneRunAlike o merged ends
