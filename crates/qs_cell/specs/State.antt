-- A node that is up, or down.
use Rattle.std.specs.Prelude.{◌≡◌, ◌⊎◌, ◌≤◌, ◌<◌, ℕ, Bool, true, false, List, [], Option, Some, None, Result, Ok, Err}
use Rattle.std.specs.Global.{Global}
use Rattle.qs_disk.specs.Disk.{DiskState, EachImage}
use Rattle.qs_disk.specs.Fuse.{FusedValue, GoesOn, mended}
use Rattle.qs_disk.specs.Moments.{Keeps}
use Rattle.qs_files.specs.declared.files.Files.{Files}
use Rattle.qs_node_host.specs.Host.{is_settled}
use Rattle.qs_ipc.specs.Ipc as ipc
use Rattle.qs_book_journal.specs.declared.entry.CrashCause.{CrashCause}
use Rattle.qs_log_start.specs.Incarnation.{IsLeftDamaged, IsLeftOrRaised, IsReopened, HasOneOf}
use Rattle.qs_log_start.specs.declared.incarnation.ReopenFault.{ReopenFault}
use Rattle.qs_log_start.specs.declared.incarnation.ReopenFault.TheVariants as reopen_faults
use Rattle.qs_log.specs.Log.{Stands, records_of}
use Rattle.qs_record.specs.declared.record.Record.{Record}
use Rattle.qs_ops.specs.declared.no_server.NoServer.{NoServer}
use Rattle.qs_node_step.specs.declared.event.ClientAnswer.{ClientAnswer}
use Rattle.qs_tm.specs.Manager as tm
use Rattle.qs_cell_chronicle.specs.Carried.{Seen, seen}
use Rattle.qs_cell_chronicle.specs.declared.carried.Carried.{Carried}
use Rattle.qs_cell.specs.Outcomes.{Outcome, stopped_of}
use Rattle.qs_cell.specs.Outcomes as outcomes
use Rattle.qs_cell.specs.declared.running.Running.{Running}
use Rattle.qs_cell.specs.Restart.{IsRestarted, IfUp}
use Rattle.qs_cell.specs.declared.state.CellState.{CellState}
use Rattle.qs_cell.specs.declared.state.RestartFault.{RestartFault}
use Rattle.qs_cell.specs.declared.state.RestartFault.TheVariants as restart_faults
use Rattle.qs_cell.specs.declared.stopped.Restarted.{Restarted}
use Rattle.qs_cell.specs.declared.stopped.Restarted.TheVariants as restarts
use Rattle.qs_cell.specs.declared.stopped.Stopped.{Stopped}
use Rattle.qs_cell.specs.declared.state.CellState.TheVariants as states

-- a node that is up, with the servers that it has
abbrev pub Up : Type 0 → Type 0
Up D = Running D Files NoServer

abbrev pub carried_of : {D : Type 0} → CellState D → Carried
carried_of (states.Up running) = running.carried
carried_of (states.Down stopped) = stopped.carried

-- how often it was visited or restarted
abbrev pub rounds_of : {D : Type 0} → CellState D → ℕ
rounds_of state = (carried_of state).chronicle.told.rounds

abbrev pub cause_of : {D : Type 0} → CellState D → Option CrashCause
cause_of (states.Up running) = None
cause_of (states.Down stopped) = Some stopped.cause

abbrev pub disk_of : {D : Type 0} → CellState D → FusedValue D
disk_of (states.Up running) = running.host.log.disk
disk_of (states.Down stopped) = stopped.disk

abbrev pub is_queued : {D : Type 0} → CellState D → Bool
is_queued (states.Up running) = ipc.queued running.host.node.queues
is_queued (states.Down stopped) = false

abbrev pub has_undecided : {D : Type 0} → CellState D → Bool
has_undecided (states.Up running) = tm.has_undecided running.host.node.manager
has_undecided (states.Down stopped) = false

abbrev pub is_settled_node : {D : Type 0} → CellState D → Bool
is_settled_node (states.Up running) = is_settled running.host
is_settled_node (states.Down stopped) = false

-- what is seen of the cell is this, and else all of the node is as it was
abbrev pub IsSeenAs : {D : Type 0} → (Seen → Seen) → CellState D → CellState D → Type 0
IsSeenAs f (states.Up old) (states.Up new) =
    ((new.host ≡ old.host) × (new.sessions ≡ old.sessions)) × ((seen new.carried ≡ f (seen old.carried)) × (new.carried.setting ≡ old.carried.setting))
IsSeenAs f (states.Down old) (states.Down new) =
    (new.disk ≡ old.disk) × ((new.kept ≡ old.kept) × (((new.cause ≡ old.cause) × (new.is_full ≡ old.is_full))
    × ((seen new.carried ≡ f (seen old.carried)) × (new.carried.setting ≡ old.carried.setting))))
IsSeenAs f old new = ⊥

-- a node that is up stops
abbrev pub stopped_state : {D : Type 0} → CrashCause → Bool → CellState D → CellState D
stopped_state cause is_full (states.Up running) = states.Down (stopped_of cause is_full running)
stopped_state cause is_full (states.Down stopped) = states.Down stopped

-- ---- after an event

abbrev pub state_of : {D : Type 0} → Outcome D Files NoServer → CellState D
state_of (outcomes.Whole running answers) = states.Up running
state_of (outcomes.Followed stopped answers) = states.Down stopped
state_of (outcomes.Replaced stopped) = states.Down stopped
state_of (outcomes.CutOff stopped) = states.Down stopped

-- a step that does not stand whole has no answers
abbrev pub answers_of : {D : Type 0} → Outcome D Files NoServer → List ClientAnswer
answers_of (outcomes.Whole running answers) = answers
answers_of (outcomes.Followed stopped answers) = answers
answers_of (outcomes.Replaced stopped) = []
answers_of (outcomes.CutOff stopped) = []

-- ---- after a restart

abbrev pub state_after : {D : Type 0} → Restarted D Files NoServer → CellState D
state_after (restarts.Up running) = states.Up running
state_after (restarts.Down stopped why) = states.Down stopped

-- false exactly where the fuse tripped
abbrev pub answer_of : ReopenFault → Result Bool RestartFault
answer_of reopen_faults.Tripped = Ok false
answer_of reopen_faults.DiskFailed = Err restart_faults.DiskFailed
answer_of (reopen_faults.Damaged at) = Err (restart_faults.Damaged at)
answer_of reopen_faults.NoMemory = Err restart_faults.NoMemory

abbrev pub answer_after : {D : Type 0} → Restarted D Files NoServer → Result Bool RestartFault
answer_after (restarts.Up running) = Ok true
answer_after (restarts.Down stopped why) = answer_of why

-- the node that was down is started again, over what a power cut leaves: each image keeps the records that images had, and is changed at most by the
-- raise of the incarnation; the log of a node that is up stands there and has the records of one; the fuse, which the power cut mends, trips at
-- planned calls alone; a damage that is told is that of an image; and the disk has as many bytes as before
pub record Restarts {D : Type 0} (told : Type 0) (state : D → DiskState) (own size : D → ℕ) (alloc : Global) (old : Stopped D) (new : CellState D) (answer : Result Bool RestartFault) : Type 0 where
  pub restarted : Restarted D Files NoServer
  pub is : IsRestarted own alloc old restarted
  pub node : new ≡ state_after restarted
  pub said : answer ≡ answer_after restarted
  pub reopened : told → IfUp restarted (IsReopened (state old.disk.disk))
  pub stands : told → IfUp restarted (λ log. Stands log (state log.disk.disk))
  pub found : told → IfUp restarted (λ log. (a b : List Record) → EachImage (HasOneOf a b) (state old.disk.disk).now → (records_of log ≡ a) ⊎ (records_of log ≡ b))
  pub moments : told → (a b : List Record) → EachImage (HasOneOf a b) (state old.disk.disk).now
      → Keeps (HasOneOf a b) (state old.disk.disk) (state (disk_of new).disk)
  pub touched : told → Keeps (IsLeftOrRaised (state old.disk.disk)) (state old.disk.disk) (state (disk_of new).disk)
  pub damaged : told → (at : ℕ) → answer ≡ Err (restart_faults.Damaged at) → IsLeftDamaged (state old.disk.disk) at
  pub goes : GoesOn (mended old.disk.fuse) (disk_of new).fuse
  pub bytes : size (disk_of new).disk ≡ size old.disk.disk

-- a node that is up is left alone
abbrev pub StartsAgain : {D : Type 0} → Type 0 → (D → DiskState) → (D → ℕ) → (D → ℕ) → Global → CellState D → CellState D → Result Bool RestartFault → Type 0
StartsAgain told state own size alloc (states.Up running) new answer = (new ≡ states.Up running) × (answer ≡ Ok true)
StartsAgain told state own size alloc (states.Down stopped) new answer = Restarts told state own size alloc stopped new answer

-- ---- what holds of each

-- the log stands on the disk of a node that is up
abbrev pub LogStands : {D : Type 0} → (D → DiskState) → CellState D → Type 0
LogStands state (states.Up running) = Stands running.host.log (state running.host.log.disk.disk)
LogStands state (states.Down stopped) = Unit {0}

-- the numbers of the setting keep their limits
pub record IsAllowed (carried : Carried) : Type 0 where
  pub batch : carried.setting.extra ≤ 8
  pub keep : carried.setting.keep ≤ 144
  pub nodes : carried.setting.nodes ≤ 8
  pub node : carried.setting.node.0 < carried.setting.nodes
