-- The start of a cell: its node begins with what the log of its disk says.
use Rattle.std.specs.Prelude.{◌≡◌, ℕ, false, List, [], map, Result, Ok, Err}
use Rattle.std.specs.Global.{Global}
use Rattle.qs_base.specs.declared.identifiers.NodeNo.{NodeNo}
use Rattle.qs_cell_peers.specs.Links.{LinksValue}
use Rattle.qs_disk.specs.Disk.{DiskState}
use Rattle.qs_disk.specs.Fuse.{FusedValue}
use Rattle.qs_node_host.specs.Host.{opened_host}
use Rattle.qs_log_start.specs.Incarnation.{open_limit, IsRaisedLog, IsArmed}
use Rattle.qs_book_journal.specs.declared.entry.Entry.{Entry}
use Rattle.qs_book_journal.specs.declared.script_line.Point.{Point}
use Rattle.qs_node_kept.specs.Keeping.{no_kept}
use Rattle.qs_link.specs.declared.ends.NodeEnds.{NodeEnds}
use Rattle.qs_log.specs.Log.{LogValue}
use Rattle.qs_book_machine.specs.declared.opened.Opened.{Opened}
use Rattle.qs_cell_chronicle.specs.declared.points.Watched.{Watched}
use Rattle.qs_node_step.specs.declared.setting.Setting.{Setting}
use Rattle.qs_node_step.specs.declared.trace.Step.{Step}
use Rattle.qs_world.specs.Histories.{opened_with}
use Rattle.qs_cell_chronicle.specs.Carried.{Seen, seen}
use Rattle.qs_cell_chronicle.specs.Chronicle.{new_told}
use Rattle.qs_cell.specs.Hearing.{Post}
use Rattle.qs_cell.specs.Logged.{GoesOn, IsLogged, StandsWithin}
use Rattle.qs_cell.specs.Restart.{AreNew, inc_of, found_in}
use Rattle.qs_cell.specs.State.{Up, LogStands, IsAllowed, carried_of, disk_of, rounds_of}
use Rattle.qs_cell.specs.Visits.{Seat}
use Rattle.qs_cell.specs.declared.starting.CellOpen.{CellOpen}
use Rattle.qs_cell.specs.declared.starting.NodePlan.{NodePlan}
use Rattle.qs_cell.specs.declared.state.CellState.{CellState}
use Rattle.qs_cell.specs.declared.state.CellState.TheVariants as states

-- what contracts see of a cell
pub record CellValue (D : Type 0) : Type 0 where
  pub alloc : Global
  pub seat : Seat D
  pub links : LinksValue
  pub opened : Opened  -- what its log held as it was started
  pub faults : ℕ  -- what the disk itself had counted as it was handed in

-- the log of a node that is up goes on from what it was started with
abbrev pub LogGoesOn : {D : Type 0} → Opened → CellState D → Type 0
LogGoesOn opened (states.Up running) = GoesOn opened running.host.log.forced
LogGoesOn opened (states.Down stopped) = Unit {0}

-- what holds of each
pub record IsSound {D : Type 0} (told : Type 0) (state : D → DiskState) (opened : Opened) (node : CellState D) : Type 0 where
  pub stands : told → LogStands state node
  pub allowed : IsAllowed (carried_of node)
  pub goes_on : told → LogGoesOn opened node
  pub logged : told → IsLogged opened (state (disk_of node).disk).now
  pub within : told → StandsWithin (rounds_of node) (state (disk_of node).disk).now

-- with its ends of its links
abbrev pub post_of : {D : Type 0} → CellValue D → Post D
post_of cell = record { seat = cell.seat; links = cell.links }

abbrev pub journal_of : {D : Type 0} → CellValue D → List Entry
journal_of cell = (carried_of cell.seat.node).chronicle.told.journal

abbrev pub trace_of : {D : Type 0} → CellValue D → List Step
trace_of cell = (carried_of cell.seat.node).chronicle.told.trace

-- ---- as it begins

-- a line of the script of which no entry has come
abbrev pub watched_of : Point → Watched
watched_of point = record { point = point; passed = false }

abbrev pub seen_first : NodeNo → List ℕ → List Point → Seen
seen_first node crashes points = record { told = new_told node; commands = []; crashes = crashes; points = map watched_of points }

-- the incarnation is that of the log
abbrev pub setting_in : {D : Type 0} → LogValue D → Setting → Setting
setting_in log setting = record setting { inc = inc_of log }

-- a node begins with what its log says
pub record Begins {D : Type 0} (alloc : Global) (given : Setting) (crashes : List ℕ) (points : List Point) (log : LogValue (FusedValue D)) (new : Up D) : Type 0 where
  pub host : new.host ≡ opened_host alloc (setting_in log given) no_kept log
  pub sessions : AreNew new.carried.setting new.sessions
  pub setting : new.carried.setting ≡ setting_in log given
  pub seen : seen new.carried ≡ seen_first given.node crashes points

-- the log of the disk was opened and raised, and the node begins with what it says
pub record IsStarted {D : Type 0} (told : Type 0) (state : D → DiskState) (alloc : Global) (disk : D) (setting : Setting) (links : LinksValue) (ends : List NodeEnds) (plan : NodePlan) (new : CellValue D) : Type 0 where
  pub running : Up D
  pub node : new.seat.node ≡ states.Up running
  pub begins : Begins alloc setting plan.crashes plan.points running.host.log running
  pub raised : told → IsRaisedLog open_limit (state disk).content running.host.log
  pub stands : told → LogStands state (states.Up running)
  pub armed : IsArmed plan.stops running.host.log.disk.fuse
  pub lanes : new.seat.ends ≡ ends
  pub links_are : new.links ≡ links
  pub opened : new.opened ≡ opened_with (setting_in running.host.log setting) (found_in running.host.log)

-- the disk, whether it is started or not
abbrev pub started_disk : {D : Type 0} → Result (CellValue D) (CellOpen D) → FusedValue D
started_disk (Ok cell) = disk_of cell.seat.node
started_disk (Err back) = back.disk
