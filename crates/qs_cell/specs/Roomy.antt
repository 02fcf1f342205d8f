-- A node of a cell whose log has room for all that is kept there: what its events and restarts leave of that.
use Rattle.std.specs.Prelude.{◌≡◌, ℕ, true, false, ⊤}
use Rattle.qs_node_room.specs.Fits.{IsEnough}
use Rattle.qs_node_room.specs.Opens.{are_named}
use Rattle.qs_node_host.specs.Roomy.{BeginsNewAt, IsRoomyHost}
use Rattle.qs_log.specs.Log.{records_of}
use Rattle.qs_restart.specs.Recovery.{recovery}
use Rattle.qs_node_step.specs.declared.setting.Setting.{Setting}
use Rattle.qs_cell_chronicle.specs.Occasions.{event_of}
use Rattle.qs_cell_chronicle.specs.declared.occasion.Occasion.{Occasion}
use Rattle.qs_cell.specs.Outcomes.{Outcome}
use Rattle.qs_cell.specs.Outcomes as outcomes
use Rattle.qs_cell.specs.declared.running.Running.{Running}
use Rattle.qs_cell.specs.declared.state.CellState.{CellState}
use Rattle.qs_cell.specs.declared.state.CellState.TheVariants as states
use Rattle.qs_cell.specs.declared.stopped.Restarted.{Restarted}
use Rattle.qs_cell.specs.declared.stopped.Restarted.TheVariants as restarts

-- ---- an event

-- what a client begins is not known to the node
abbrev pub ComesNew : {D F X : Type 0} → ℕ → Occasion → Running D F X → Type 0
ComesNew size occasion old = BeginsNewAt size old.host (event_of occasion)

-- the node is roomy, or stopped, but not as its log was full
abbrev pub IsRoomyOutcome : {D F X : Type 0} → ℕ → ℕ → Outcome D F X → Type 0
IsRoomyOutcome keep size (outcomes.Whole running answers) = IsRoomyHost keep size running.host
IsRoomyOutcome keep size (outcomes.Followed stopped answers) = stopped.is_full ≡ false
IsRoomyOutcome keep size (outcomes.Replaced stopped) = stopped.is_full ≡ false
IsRoomyOutcome keep size (outcomes.CutOff stopped) = stopped.is_full ≡ false

abbrev pub IsRoomyNode : {D : Type 0} → ℕ → ℕ → CellState D → Type 0
IsRoomyNode keep size (states.Up running) = IsRoomyHost keep size running.host
IsRoomyNode keep size (states.Down stopped) = stopped.is_full ≡ false

-- no event comes to a node that is down
abbrev pub ComesNewTo : {D : Type 0} → ℕ → Occasion → CellState D → Type 0
ComesNewTo size occasion (states.Up running) = ComesNew size occasion running
ComesNewTo size occasion (states.Down stopped) = ⊤

-- ---- a restart

-- what the node keeps for each transaction that is not ended is enough for a Commit of all nodes and what ends it
pub record IsSetToKeep (keep : ℕ) (setting : Setting) : Type 0 where
  pub enough : IsEnough keep 0
  pub keep_is : setting.keep ≡ keep
  pub extra_is : setting.extra ≡ 0

-- a node that is up is roomy where what its log says is of transactions
abbrev pub RisesRoomy : {D F X : Type 0} → ℕ → ℕ → Restarted D F X → Type 0
RisesRoomy keep size (restarts.Up running) = are_named (recovery (records_of running.host.log)) ≡ true → IsRoomyHost keep size running.host
RisesRoomy keep size (restarts.Down stopped why) = ⊤

-- and so is one that was roomy before, or down, but not as its log was full
abbrev pub StartsRoomy : {D : Type 0} → ℕ → ℕ → CellState D → Type 0
StartsRoomy keep size (states.Up running) = are_named (recovery (records_of running.host.log)) ≡ true → IsRoomyHost keep size running.host
StartsRoomy keep size (states.Down stopped) = stopped.is_full ≡ false
