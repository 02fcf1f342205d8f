-- The steps of a trace as moves: what each step says that it did, and the moves that it is.
use Rattle.std.specs.Prelude.{◌≡◌, ◌⊎◌, ℕ, zero, suc, ◌==◌, ⊤, Bool, List, [], ◌∷◌, ◌++◌, Option, Some, None, if◌then◌else◌}
use Rattle.std.specs.List.{AllByRecursion, flat_map}
use Rattle.qs_session_channels.specs.End as end
use Rattle.qs_book_journal.specs.declared.entry.CrashCause.{CrashCause}
use Rattle.qs_packet.specs.declared.message.Message.{Message}
use Rattle.qs_packet.specs.declared.packet.Packet.{Packet}
use Rattle.qs_node_step.specs.declared.event.Event.{Event}
use Rattle.qs_node_step.specs.declared.event.Event.TheVariants as events
use Rattle.qs_node_step.specs.declared.trace.Did.{Did}
use Rattle.qs_node_step.specs.declared.trace.Did.TheVariants as dids
use Rattle.qs_node_step.specs.declared.trace.Step as trace
use Rattle.qs_world.specs.Moves.{command_of}
use Rattle.qs_world.specs.World.{Parcel}
use Rattle.qs_world_packets.specs.PacketMoves.{Source, Commanded, Queues, Clock, Brought, Move, Step, Cut, Stop, Rise, Meet, Take, Tick}
use Rattle.qs_world_packets.specs.PacketSessions.{plain_packet}
use Rattle.qs_world_merge.specs.LocalRuns.{TimedMove, node_of}

-- a packet without the names of its nodes
abbrev pub seen : Packet → end.Packet Message
seen p = record { inc = p.inc; to_inc = p.to_inc; number = p.number; ack = p.ack; stamp = p.stamp; message = p.message }

-- a step with its moves: the first, and more where sessions tick
pub record StepMoves : Type 0 where
  pub step : trace.Step
  pub first : TimedMove
  pub more : List TimedMove

abbrev pub moves_in : StepMoves → List TimedMove
moves_in d = d.first ∷ d.more

abbrev pub all_moves : List StepMoves → List TimedMove
all_moves ds = flat_map moves_in ds

abbrev pub step_of : StepMoves → trace.Step
step_of d = d.step

abbrev pub step_key : trace.Step → ℕ × ℕ
step_key step = (step.stamp, step.node.0)

-- ---- which moves a step of node n with stamp s is

abbrev pub one_move : ℕ → Move → Option Event → List TimedMove
one_move s move event = record { stamp = s; move = move; event = event } ∷ []

-- a whole step
pub record IsWhole (n s : ℕ) (source : Source) (event : Option Event) (moves : List TimedMove) : Type 0 where
  pub free : ℕ
  pub is : moves ≡ one_move s (Step n s free source) event

-- a crash in place of a step, or after one
abbrev pub IsStop : ℕ → ℕ → CrashCause → List TimedMove → Type 0
IsStop n s cause moves = moves ≡ one_move s (Stop n s cause) None

-- a step that a crash cuts off
pub record IsCut (n s : ℕ) (source : Source) (cause : CrashCause) (moves : List TimedMove) : Type 0 where
  pub free : ℕ
  pub is_kept : Bool
  pub event : Option Event
  pub is : moves ≡ one_move s (Cut n s free source is_kept cause) event

-- the packet comes with a message in turn, or from a later incarnation; or it is the first of its node; or it changes the end alone
pub record IsTaking (n s : ℕ) (packet : Packet) (moves : List TimedMove) : Type 0 where
  pub brought : end.Packet Parcel
  pub plain : plain_packet brought ≡ seen packet
  pub event : Option Event
  pub how : IsWhole n s (Brought packet.from.0 brought) event moves
      ⊎ ((moves ≡ one_move s (Meet n s packet.from.0 brought) None) ⊎ (moves ≡ one_move s (Take n packet.from.0 brought) None))

-- cut off as it came with a packet
pub record IsCutTaking (n s : ℕ) (packet : Packet) (cause : CrashCause) (moves : List TimedMove) : Type 0 where
  pub brought : end.Packet Parcel
  pub plain : plain_packet brought ≡ seen packet
  pub cut : IsCut n s (Brought packet.from.0 brought) cause moves

-- the session with each other node below m ticks, in order
abbrev pub ticks_below : ℕ → ℕ → ℕ → List TimedMove
ticks_below zero n s = []
ticks_below (suc m) n s = ticks_below m n s ++ (if m == n then [] else one_move s (Tick n m s) None)

-- behind the step of a tick
pub record IsTicking (size n s : ℕ) (moves : List TimedMove) : Type 0 where
  pub free : ℕ
  pub is : moves ≡ one_move s (Step n s free Clock) (Some events.Tick) ++ ticks_below size n s

-- what the step says that it did, and the crash that stands in it
abbrev pub DoesAs : ℕ → ℕ → ℕ → Did → Option CrashCause → List TimedMove → Type 0
DoesAs size n s (dids.Packet packet) None moves = IsTaking n s packet moves
DoesAs size n s (dids.Packet packet) (Some cause) moves = IsStop n s cause moves ⊎ IsCutTaking n s packet cause moves
DoesAs size n s (dids.Command line) None moves = IsWhole n s (Commanded line.client.0) (Some (command_of line)) moves
DoesAs size n s (dids.Command line) (Some cause) moves = IsStop n s cause moves ⊎ IsCut n s (Commanded line.client.0) cause moves
DoesAs size n s dids.ServeAll None moves = IsWhole n s Queues (Some events.ServeAll) moves
DoesAs size n s dids.ServeAll (Some cause) moves = IsStop n s cause moves ⊎ IsCut n s Queues cause moves
DoesAs size n s dids.Tick None moves = IsTicking size n s moves
DoesAs size n s dids.Tick (Some cause) moves = IsStop n s cause moves ⊎ IsCut n s Clock cause moves
DoesAs size n s (dids.Restart inc) None moves = moves ≡ one_move s (Rise n s inc) None
DoesAs size n s (dids.Restart inc) (Some cause) moves = ⊥
DoesAs size n s dids.Nothing None moves = ⊥
DoesAs size n s dids.Nothing (Some cause) moves = IsStop n s cause moves

-- each move has the stamp and the node of the step
abbrev pub AllAt : ℕ → ℕ → List TimedMove → Type 0
AllAt s n [] = ⊤
AllAt s n (t ∷ ts) = (t.stamp ≡ s) × (node_of t.move ≡ n) × AllAt s n ts

-- the moves are those of the step
pub record AreItsMoves (size : ℕ) (d : StepMoves) : Type 0 where
  pub does : DoesAs size d.step.node.0 d.step.stamp d.step.did d.step.crash (moves_in d)
  pub at : AllAt d.step.stamp d.step.node.0 (moves_in d)

abbrev pub AreTheirMoves : ℕ → List StepMoves → Type 0
AreTheirMoves size ds = AllByRecursion (AreItsMoves size) ds
