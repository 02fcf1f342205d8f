-- The turns of a visit: of each of the node's own sources the event that is due, one after the other, as long as the node is up.
use Rattle.std.specs.Prelude.{◌≡◌, ◌⊎◌, ℕ, Bool, true, false, not, List, [], ◌∷◌, ◌++◌, map, drop, fold, length, Option, Some, None, if◌then◌else◌}
use Rattle.std.specs.List.{list_any}
use Rattle.std.specs.Map.{lookup}
use Rattle.std.specs.BTreeMap.{is_at}
use Rattle.qs_base.specs.declared.identifiers.ClientNo.{ClientNo}
use Rattle.qs_disk.specs.Disk.{DiskState}
use Rattle.qs_disk.specs.Moments.{Keeps}
use Rattle.qs_files.specs.declared.files.Files.{Files}
use Rattle.qs_node_host.specs.Host.{IsOldOrAfter}
use Rattle.qs_book_journal.specs.declared.entry.Act.{Act}
use Rattle.qs_book_journal.specs.declared.entry.Act.TheVariants as acts
use Rattle.qs_book_journal.specs.declared.entry.Entry.{Entry}
use Rattle.qs_book_journal.specs.declared.script_line.ScriptLine.{ScriptLine}
use Rattle.qs_ops.specs.declared.no_server.NoServer.{NoServer}
use Rattle.qs_slot.specs.Slot.{SayTheSame}
use Rattle.qs_node_step.specs.State.{client_cmp}
use Rattle.qs_node_step.specs.declared.event.ClientAnswer.{ClientAnswer}
use Rattle.qs_cell_chronicle.specs.Carried.{is_due_again}
use Rattle.qs_cell_chronicle.specs.declared.carried.Carried.{Carried}
use Rattle.qs_cell_chronicle.specs.declared.carried.HeldCommand.{HeldCommand}
use Rattle.qs_cell_chronicle.specs.declared.occasion.Occasion.{Occasion}
use Rattle.qs_cell_chronicle.specs.declared.occasion.Occasion.TheVariants as occasions
use Rattle.qs_cell.specs.Cell.{IfStands, IsOutcome, StandsAfter, out_of}
use Rattle.qs_link.specs.Lanes.{next_line, at_client, without_line, delivered}
use Rattle.qs_cell.specs.State.{Up, IsSeenAs, disk_of, carried_of, is_queued, state_of, answers_of}
use Rattle.qs_cell.specs.declared.cell.EventSource.{EventSource}
use Rattle.qs_cell.specs.declared.cell.EventSource.TheVariants as sources
use Rattle.qs_link.specs.declared.ends.NodeEnds.{NodeEnds}
use Rattle.qs_cell.specs.Outcomes.{Outcome}
use Rattle.qs_cell.specs.declared.state.CellState.{CellState}
use Rattle.qs_cell.specs.declared.state.CellState.TheVariants as states

-- ---- which event is due

abbrev pub held_by : ClientNo → Carried → Option HeldCommand
held_by client carried = lookup (is_at (client_cmp client)) carried.commands

abbrev pub as_command : Option ScriptLine → Option Occasion
as_command None = None
as_command (Some line) = Some (occasions.Command line)

-- a command in hand is due again where an earlier incarnation took it
abbrev pub due_again : ℕ → HeldCommand → Option Occasion
due_again inc held = if is_due_again inc held then Some (occasions.Command held.line) else None

-- where the client has none in hand, the next of its lane is due
abbrev pub due_of : ℕ → Option HeldCommand → Option ScriptLine → Option Occasion
due_of inc None next = as_command next
due_of inc (Some held) next = due_again inc held

abbrev pub due_command : ClientNo → Carried → List NodeEnds → Option Occasion
due_command client carried ends = due_of carried.setting.inc (held_by client carried) (next_line client ends)

abbrev pub due_from : {D : Type 0} → EventSource → CellState D → List NodeEnds → Option Occasion
due_from (sources.Client client) state ends = due_command client (carried_of state) ends
due_from sources.Queues state ends = if is_queued state then Some occasions.Queues else None
due_from sources.Clock state ends = Some occasions.Clock

-- nothing is due of a node that is down
abbrev pub due : {D : Type 0} → EventSource → CellState D → List NodeEnds → Option Occasion
due source (states.Up running) ends = due_from source (states.Up running) ends
due source (states.Down stopped) ends = None

-- the lanes once it is taken from them
abbrev pub left_of : ClientNo → Option HeldCommand → List NodeEnds → List NodeEnds
left_of client None ends = at_client client without_line ends
left_of client (Some held) ends = ends

abbrev pub left_by : {D : Type 0} → EventSource → CellState D → List NodeEnds → List NodeEnds
left_by (sources.Client client) (states.Up running) ends = left_of client (held_by client running.carried) ends
left_by source state ends = ends

-- answers go out, each to its client, in order
abbrev pub deliver : List NodeEnds → ClientAnswer → List NodeEnds
deliver ends said = delivered said.client said.answer ends

abbrev pub all_delivered : List ClientAnswer → List NodeEnds → List NodeEnds
all_delivered answers ends = fold deliver ends answers

-- ---- an event

-- the node made it: where the step stands the log stands on the disk with it, and at each moment each image has the records of before the step, or
-- those of after it, and slots that say the same; the disk has as many bytes as before
pub record Makes {D : Type 0} (told : Type 0) (state : D → DiskState) (own size : D → ℕ) (occasion : Occasion) (old : Up D) (new : CellState D) (answers : List ClientAnswer) : Type 0 where
  pub outcome : Outcome D Files NoServer
  pub is : IsOutcome own (size old.host.log.disk.disk) occasion old outcome
  pub node : new ≡ state_of outcome
  pub said : answers ≡ answers_of outcome
  pub stands : told → IfStands outcome (λ disk. StandsAfter (out_of (size old.host.log.disk.disk) occasion old) old.host.log disk (state disk.disk))
  pub moments : told → Keeps (IsOldOrAfter (out_of (size old.host.log.disk.disk) occasion old) old.host.log)
      (state old.host.log.disk.disk) (state (disk_of new).disk)
  pub header : told → Keeps (SayTheSame (state old.host.log.disk.disk).content) (state old.host.log.disk.disk) (state (disk_of new).disk)
  pub bytes : size (disk_of new).disk ≡ size old.host.log.disk.disk

-- a node that is down makes nothing of it
abbrev pub MakesIn : {D : Type 0} → Type 0 → (D → DiskState) → (D → ℕ) → (D → ℕ) → Occasion → CellState D → CellState D → List ClientAnswer → Type 0
MakesIn told state own size occasion (states.Up old) new answers = Makes told state own size occasion old new answers
MakesIn told state own size occasion (states.Down old) new answers = (new ≡ states.Down old) × (answers ≡ [])

-- ---- a source's turn

-- the node and its lanes
pub record Seat (D : Type 0) : Type 0 where
  pub node : CellState D
  pub ends : List NodeEnds

-- where an event is due it is made, and its answers go out; the lanes are left without what was taken from them
abbrev pub TakesTurn : {D : Type 0} → Type 0 → (D → DiskState) → (D → ℕ) → (D → ℕ) → Option Occasion → List NodeEnds → Seat D → Seat D → Type 0
TakesTurn told state own size None left old new = new ≡ record old { ends = left }
TakesTurn told state own size (Some occasion) left old new =
    (answers : List ClientAnswer) × (MakesIn told state own size occasion old.node new.node answers × (new.ends ≡ all_delivered answers left))

-- the node is the same but for the room that is made for a crash
abbrev pub IsSameNode : {D : Type 0} → CellState D → CellState D → Type 0
IsSameNode old new = IsSeenAs (λ s. s) old new

pub record Turns {D : Type 0} (told : Type 0) (state : D → DiskState) (own size : D → ℕ) (source : EventSource) (old new : Seat D) : Type 0 where
  pub ready : CellState D
  pub same : IsSameNode old.node ready
  pub turn : TakesTurn told state own size (due source ready old.ends) (left_by source ready old.ends) (record { node = ready; ends = old.ends }) new

-- ---- a visit

abbrev pub TurnsAll : {D : Type 0} → Type 0 → (D → DiskState) → (D → ℕ) → (D → ℕ) → List EventSource → Seat D → Seat D → Type 0
TurnsAll told state own size [] old new = new ≡ old
TurnsAll told state own size (source ∷ sources) old new =
    (mid : Seat _) × (Turns told state own size source old mid × TurnsAll told state own size sources mid new)

-- memory was refused within a turn: the node is as it was but for room, or the event was made
abbrev pub IsBroken : {D : Type 0} → Type 0 → (D → DiskState) → (D → ℕ) → (D → ℕ) → EventSource → Seat D → Seat D → Type 0
IsBroken told state own size source old new =
    (IsSameNode old.node new.node × (new.ends ≡ old.ends))
    ⊎ ((ready : CellState _) × (IsSameNode old.node ready × ((occasion : Occasion) × ((due source ready old.ends ≡ Some occasion)
    × ((answers : List ClientAnswer) × MakesIn told state own size occasion ready new.node answers)))))

-- those before the refusal were taken
abbrev pub TurnsSome : {D : Type 0} → Type 0 → (D → DiskState) → (D → ℕ) → (D → ℕ) → List EventSource → Seat D → Seat D → Type 0
TurnsSome told state own size [] old new = ⊥
TurnsSome told state own size (source ∷ sources) old new =
    IsBroken told state own size source old new
    ⊎ ((mid : Seat _) × (Turns told state own size source old mid × TurnsSome told state own size sources mid new))

-- the clients by number, then the queues, then the clock
abbrev pub client_source : NodeEnds → EventSource
client_source end = sources.Client end.client

abbrev pub sources_of : List NodeEnds → List EventSource
sources_of ends = map client_source ends ++ (sources.Queues ∷ sources.Clock ∷ [])

-- ---- what came of it

abbrev pub entries_in : {D : Type 0} → CellState D → List Entry
entries_in node = (carried_of node).chronicle.told.journal

-- entries were only added
pub record Grows (old new : List Entry) : Type 0 where
  pub made : List Entry
  pub is : new ≡ old ++ made

abbrev pub is_tick : Act → Bool
is_tick acts.Tick = true
is_tick act = false

abbrev pub is_noted : Entry → Bool
is_noted entry = not (is_tick entry.act)

-- an entry other than that of a tick was made
abbrev pub has_noted : List Entry → List Entry → Bool
has_noted before now = list_any is_noted (drop (length before) now)
