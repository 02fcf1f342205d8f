-- A cell that is up with its clients in a world to which its node has come, or one that is down, whose disk has one of two logs, with a world for each.
-- Each event and each restart goes on there.
use Rattle.std.specs.Prelude.{◌≡◌, ◌≢◌, ◌≤◌, ◌^◌, ℕ, Bool, List, [], Some, Result, Ok}
use Rattle.std.specs.Global.{Global}
use Rattle.qs_book_journal.specs.declared.entry.CrashCause.TheVariants as causes
use Rattle.qs_book_journal.specs.declared.script_line.Point.{Point}
use Rattle.qs_cell.specs.Restart.{inc_of}
use Rattle.qs_cell.specs.Starts.{Begins, setting_in}
use Rattle.qs_cell.specs.State.{LogStands, Restarts, Up, carried_of, cause_of}
use Rattle.qs_cell.specs.Visits.{Makes, all_delivered}
use Rattle.qs_cell.specs.declared.state.CellState.{CellState}
use Rattle.qs_cell.specs.declared.state.CellState.TheVariants as states
use Rattle.qs_cell.specs.declared.state.RestartFault.{RestartFault}
use Rattle.qs_cell.specs.declared.stopped.Stopped.{Stopped}
use Rattle.qs_cell_chronicle.specs.declared.occasion.Occasion.{Occasion}
use Rattle.qs_cell_peers.specs.Sessions.{SessionsValue}
use Rattle.qs_client.specs.declared.cell.ClientCell.{ClientCell}
use Rattle.qs_disk.specs.Disk.{DiskState, EachImage}
use Rattle.qs_disk.specs.Fuse.{FusedValue}
use Rattle.qs_link.specs.declared.ends.NodeEnds.{NodeEnds}
use Rattle.qs_log.specs.Log.{LogValue}
use Rattle.qs_log_start.specs.Incarnation.{HasOneOf}
use Rattle.qs_node_step.specs.declared.event.ClientAnswer.{ClientAnswer}
use Rattle.qs_node_step.specs.declared.setting.Setting.{Setting}
use Rattle.qs_record.specs.declared.record.Record.{Record}
use Rattle.qs_slot.specs.Slot.{Present, slots_in}
use Rattle.qs_world.specs.World.{Opening}
use Rattle.qs_world_merge.specs.Observed.{IsOfLocalRun}
use Rattle.qs_world_packets.specs.PacketWorld.{start}
use Rattle.qs_world_seats.specs.Beginnings.{OpensWith}
use Rattle.qs_world_seats.specs.Events.{with_sessions}
use Rattle.qs_world_seats.specs.Seats.{AreSeated, From, IsDueFrom, SeatDown, SeatUp, left}
use Rattle.qs_world_seats.specs.Shown.{Reaches, observed_of}

-- a cell that is up, over its log, in the incarnation that this says
pub record IsRunning {D : Type 0} (told : Type 0) (state : D → DiskState) (o : Opening) (n : ℕ) (running : Up D) (ends : List NodeEnds) (clients : List ClientCell) : Type 0 where
  pub reached : Reaches o n running.carried.chronicle.told (SeatUp o n running ends clients)
  pub inc : inc_of running.host.log ≡ running.carried.setting.inc
  pub stands : told → LogStands state (states.Up running)

-- the image has a log in this incarnation or a later one
pub record IsInOrPast (inc : ℕ) (image : List ℕ) : Type 0 where
  pub present : Present
  pub slots : slots_in (2 ^ 62) image ≡ Ok present
  pub reached : inc ≤ present.value.inc

-- a cell that is down: each image of its disk has one of two logs, and the node has come to a world with each; none has fallen behind its incarnation
pub record IsHalted {D : Type 0} (told : Type 0) (state : D → DiskState) (o : Opening) (n : ℕ) (stopped : Stopped D) (ends : List NodeEnds) (clients : List ClientCell) : Type 0 where
  pub first : List Record
  pub other : List Record
  pub to_first : Reaches o n stopped.carried.chronicle.told (SeatDown o n stopped ends clients first)
  pub to_other : Reaches o n stopped.carried.chronicle.told (SeatDown o n stopped ends clients other)
  pub images : told → EachImage (HasOneOf first other) (state stopped.disk.disk).now
  pub incs : told → EachImage (IsInOrPast stopped.carried.setting.inc) (state stopped.disk.disk).now

abbrev pub IsInWorld : {D : Type 0} → Type 0 → (D → DiskState) → Opening → ℕ → CellState D → List NodeEnds → List ClientCell → Type 0
IsInWorld told state o n (states.Up running) ends clients = IsRunning told state o n running ends clients
IsInWorld told state o n (states.Down stopped) ends clients = IsHalted told state o n stopped ends clients

-- what such a cell tells is of a local run of its node
abbrev pub TellsOfRun : {D : Type 0} → Type 0 → (D → DiskState) → Opening → ℕ → CellState D → List NodeEnds → List ClientCell → Type 0
TellsOfRun told state o n node ends clients = IsInWorld told state o n node ends clients → IsOfLocalRun o n (observed_of (carried_of node).chronicle.told)

-- ---- as it begins

-- its clients stand as the opening has them
abbrev pub SeatBegins : {D : Type 0} → Type 0 → (D → DiskState) → Opening → ℕ → Global → Setting → List ℕ → List Point → LogValue (FusedValue D) → Up D → List NodeEnds → List ClientCell → Type 0
SeatBegins told state o n alloc given crashes points log new ends clients =
    Begins alloc given crashes points log new → log.waiting ≡ [] → OpensWith n alloc (setting_in log given) log.forced o → (told → LogStands state (states.Up new))
    → AreSeated o n (inc_of log) (Some (inc_of log)) [] ends (start o).clients clients → IsRunning told state o n new ends clients

-- ---- an event

-- no memory was refused within a step
abbrev pub IsGranted : {D : Type 0} → CellState D → Type 0
IsGranted node = cause_of node ≢ Some causes.Memory

-- an event in which none was goes on
abbrev pub EventsGoOn : {D : Type 0} → Type 0 → (D → DiskState) → (D → ℕ) → (D → ℕ) → Opening → ℕ → From → Occasion → SessionsValue → Up D → CellState D → List NodeEnds → List ClientCell → List ClientAnswer → Type 0
EventsGoOn told state own size o n source occasion sessions old new ends clients answers =
    Makes told state own size occasion (with_sessions sessions old) new answers → IsGranted new → IsDueFrom source occasion sessions old ends clients
    → IsRunning told state o n old ends clients → IsInWorld told state o n new (all_delivered answers (left source old ends)) clients

-- ---- a restart

-- where the disk tells what is on it, it finds one of the two logs, and goes on in the world that shows that one; a restart that fails leaves both
abbrev pub RestartsGoOn : {D : Type 0} → Type 0 → (D → DiskState) → (D → ℕ) → (D → ℕ) → Global → Opening → ℕ → Stopped D → CellState D → List NodeEnds → List ClientCell → Result Bool RestartFault → Type 0
RestartsGoOn told state own size alloc o n old new ends clients answer =
    told → Restarts told state own size alloc old new answer → IsHalted told state o n old ends clients → IsInWorld told state o n new ends clients
