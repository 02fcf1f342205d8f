-- A cell whose node has come to a world, whatever became of the clients: so one stands where memory was refused in a visit of it or as it was started again.
use Rattle.std.specs.Prelude.{◌≡◌, ℕ, List}
use Rattle.qs_cell.specs.Restart.{inc_of}
use Rattle.qs_cell.specs.State.{LogStands, Up, carried_of}
use Rattle.qs_cell.specs.declared.state.CellState.{CellState}
use Rattle.qs_cell.specs.declared.state.CellState.TheVariants as states
use Rattle.qs_cell.specs.declared.stopped.Stopped.{Stopped}
use Rattle.qs_disk.specs.Disk.{DiskState, EachImage}
use Rattle.qs_log_start.specs.Incarnation.{HasOneOf}
use Rattle.qs_record.specs.declared.record.Record.{Record}
use Rattle.qs_world.specs.World.{Opening}
use Rattle.qs_world_merge.specs.Observed.{IsOfLocalRun}
use Rattle.qs_world_rounds.specs.Breaks.{RefusedAt}
use Rattle.qs_world_rounds.specs.Rounds.{Cast}
use Rattle.qs_world_seats.specs.Reached.{IsInOrPast}
use Rattle.qs_world_seats.specs.Shown.{Reaches, ShowsDown, ShowsUp, observed_of}
use Rattle.qs_world_seats.specs.Sites.{IsSiteIn}

-- it is up, over its log, in the incarnation that this says
pub record IsUpIn {D : Type 0} (told : Type 0) (state : D → DiskState) (o : Opening) (n : ℕ) (running : Up D) : Type 0 where
  pub reached : Reaches o n running.carried.chronicle.told (ShowsUp n running)
  pub inc : inc_of running.host.log ≡ running.carried.setting.inc
  pub stands : told → LogStands state (states.Up running)

-- or down: each image of its disk has one of two logs, and the node has come to a world with each; none has fallen behind its incarnation
pub record IsDownIn {D : Type 0} (told : Type 0) (state : D → DiskState) (o : Opening) (n : ℕ) (stopped : Stopped D) : Type 0 where
  pub first : List Record
  pub other : List Record
  pub to_first : Reaches o n stopped.carried.chronicle.told (ShowsDown n stopped first)
  pub to_other : Reaches o n stopped.carried.chronicle.told (ShowsDown n stopped other)
  pub images : told → EachImage (HasOneOf first other) (state stopped.disk.disk).now
  pub incs : told → EachImage (IsInOrPast stopped.carried.setting.inc) (state stopped.disk.disk).now

abbrev pub IsCellIn : {D : Type 0} → Type 0 → (D → DiskState) → Opening → ℕ → CellState D → Type 0
IsCellIn told state o n (states.Up running) = IsUpIn told state o n running
IsCellIn told state o n (states.Down stopped) = IsDownIn told state o n stopped

-- what it tells is of a local run of its node
abbrev pub CellTells : {D : Type 0} → Type 0 → (D → DiskState) → Opening → ℕ → CellState D → Type 0
CellTells told state o n node = IsCellIn told state o n node → IsOfLocalRun o n (observed_of (carried_of node).chronicle.told)

-- ---- of a site

abbrev pub SiteHasCell : {D : Type 0} → Type 0 → (D → DiskState) → Opening → ℕ → Cast D → Type 0
SiteHasCell told state o n cast = IsSiteIn told state o n cast → IsCellIn told state o n cast.node.seat.node

-- where memory was refused in a visit there, in whichever step, or as the node was started again
abbrev pub SiteRefused : {D : Type 0} → Type 0 → (D → DiskState) → (D → ℕ) → (D → ℕ) → Opening → ℕ → ℕ → Cast D → Cast D → Type 0
SiteRefused told state own size o n place old new = told → RefusedAt told state own size place old new → IsSiteIn told state o n old → IsCellIn told state o n new.node.seat.node
