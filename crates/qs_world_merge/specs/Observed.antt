-- What is observed of the cells of all nodes, each by itself, and that it is of one run: a cell tells of its own node alone, and a link of what went through it.
use Rattle.std.specs.Prelude.{◌≡◌, ◌≢◌, ℕ, ◌<◌, ⊤, zero, suc, List, [], ◌∷◌, ◌++◌, map}
use Rattle.qs_session_channels.specs.End.{Packet}
use Rattle.qs_session_channels.specs.Network.{Among}
use Rattle.qs_book_journal.specs.Merge.{IsMerged}
use Rattle.qs_book_journal.specs.declared.entry.Entry.{Entry}
use Rattle.qs_packet.specs.declared.message.Message.{Message}
use Rattle.qs_node_step.specs.declared.trace.Step as trace
use Rattle.qs_world.specs.World.{Opening, Parcel}
use Rattle.qs_world_packets.specs.PacketMoves.{Source, Commanded, Queues, Clock, Brought, Move, Step, Cut, Stop, Rise, Meet, Take, Tick}
use Rattle.qs_world_packets.specs.PacketRuns.{Run}
use Rattle.qs_world_packets.specs.PacketSessions.{plain_packet}
use Rattle.qs_world_packets.specs.PacketWorld.{PacketWorld, start}
use Rattle.qs_world_merge.specs.LocalRuns.{LocalRun, TimedMove, client_at}
use Rattle.qs_world_merge.specs.MergedByKey.{IsMergedBy, of_node}
use Rattle.qs_world_merge.specs.MergedRuns.{EventsAre, untimed}
use Rattle.qs_world_merge.specs.PlainPackets.{AreAlike}
use Rattle.qs_world_merge.specs.SameAt.{SameAt}
use Rattle.qs_world_merge.specs.StepMoves.{StepMoves, AreTheirMoves, all_moves, step_key, step_of}

-- of one cell: its entries, its steps, and for each other node all that it put for it and all that it took of it, in order
pub record Observed : Type 0 where
  pub journal : List Entry
  pub trace : List trace.Step
  pub put : ℕ → List (Packet Message)
  pub took : ℕ → List (Packet Message)

-- ---- each packet that the moves take was taken of a link

pub record TookOf (size n : ℕ) (took : ℕ → List (Packet Message)) (m : ℕ) (p : Packet Parcel) : Type 0 where
  pub in_run : m < size
  pub other : m ≢ n
  pub among : Among (took m) (plain_packet p)

abbrev pub SourceTook : ℕ → ℕ → (ℕ → List (Packet Message)) → Source → Type 0
SourceTook size n took (Commanded k) = ⊤
SourceTook size n took Queues = ⊤
SourceTook size n took Clock = ⊤
SourceTook size n took (Brought m p) = TookOf size n took m p

abbrev pub Took : ℕ → ℕ → (ℕ → List (Packet Message)) → Move → Type 0
Took size n took (Step k stamp free source) = SourceTook size n took source
Took size n took (Cut k stamp free source is_kept cause) = SourceTook size n took source
Took size n took (Stop k stamp cause) = ⊤
Took size n took (Rise k stamp inc) = ⊤
Took size n took (Meet k stamp m p) = TookOf size n took m p
Took size n took (Take k m p) = TookOf size n took m p
Took size n took (Tick k m stamp) = ⊤

abbrev pub AllTook : ℕ → ℕ → (ℕ → List (Packet Message)) → List TimedMove → Type 0
AllTook size n took [] = ⊤
AllTook size n took (t ∷ ts) = Took size n took t.move × AllTook size n took ts

-- ---- a cell, and the links

-- just these packets were put; their order is not asked for, since what one tick sends again stands in the world's list in the order of its numbers, and all
-- else newest first
pub record ArePut (put : List (Packet Message)) (packets : List (Packet Parcel)) : Type 0 where
  pub there : (p : Packet Message) → Among put p → Among (map plain_packet packets) p
  pub only : (p : Packet Message) → Among (map plain_packet packets) p → Among put p

-- what is observed of node n is what it did in a local run, which came to that world
pub record IsOfLocalRun (o : Opening) (n : ℕ) (observed : Observed) : Type 0 where
  pub steps : List StepMoves
  pub are : AreTheirMoves o.size steps
  pub world : PacketWorld
  pub run : LocalRun (client_at o) n 0 (start o) (all_moves steps) world
  pub journal_is : world.journal ≡ observed.journal
  pub trace_is : map step_of steps ≡ observed.trace
  pub puts : (m : ℕ) → m < o.size → m ≢ n → ArePut (observed.put m) (world.network.packets n m)
  pub takes : AllTook o.size n observed.took (all_moves steps)

abbrev pub AreOfLocalRuns : Opening → (ℕ → Observed) → Type 0
AreOfLocalRuns o observed = (n : ℕ) → n < o.size → IsOfLocalRun o n (observed n)

-- what was taken of each link was put to it
abbrev pub TookWhatWasPut : ℕ → (ℕ → Observed) → Type 0
TookWhatWasPut size observed = (n m : ℕ) (p : Packet Message) → n < size → m < size → m ≢ n → Among ((observed n).took m) p → Among ((observed m).put n) p

-- ---- one run of all

abbrev pub journals_of : ℕ → (ℕ → Observed) → List (List Entry)
journals_of zero observed = []
journals_of (suc n) observed = journals_of n observed ++ (observed n).journal ∷ []

abbrev pub trace_in : (ℕ → Observed) → ℕ → List trace.Step
trace_in observed n = (observed n).trace

-- a run of all nodes, whose steps are the merge of theirs, and whose history is that of theirs; each node has in it what it has by itself
pub record IsOfOneRun (o : Opening) (observed : ℕ → Observed) (local : AreOfLocalRuns o observed) : Type 0 where
  pub steps : List StepMoves
  pub are : AreTheirMoves o.size steps
  pub moves : List TimedMove
  pub alike : AreAlike (all_moves steps) moves  -- the same but for the stamps of the steps that posted messages, which no packet bears
  pub world : PacketWorld
  pub run : Run (start o) (untimed moves) world
  pub events : EventsAre (start o) moves
  pub each : (n : ℕ) (in_run : n < o.size) → SameAt (client_at o) n world (local n in_run).world
  pub journal : (merged : List Entry) → IsMerged (journals_of o.size observed) merged → world.journal ≡ merged
  pub own : (n : ℕ) → n < o.size → of_node step_key n (map step_of steps) ≡ (observed n).trace
  pub trace : (merged : List trace.Step) → IsMergedBy step_key o.size (trace_in observed) merged → map step_of steps ≡ merged

abbrev pub EachIsOfOneRun : Type 0
EachIsOfOneRun = (o : Opening) (observed : ℕ → Observed) (local : AreOfLocalRuns o observed) → TookWhatWasPut o.size observed → IsOfOneRun o observed local
