-- Stages of an event, which has begun, is worked out and is done with the log, and of a restart.
use Rattle.std.specs.Prelude.{◌≡◌, ◌≢◌, ◌↔◌, ℕ, List, [], ◌∷◌, None}
use Rattle.std.specs.Global.{Global}
use Rattle.qs_base.specs.Causes.{Rose}
use Rattle.qs_cell_peers.specs.Sessions.{SessionsValue}
use Rattle.qs_disk.specs.Fuse.{FusedValue, GoesOn}
use Rattle.qs_node_host.specs.Host.{HostValue, node_after, worked_node, opened_host, IsLogAfter}
use Rattle.qs_log_start.specs.declared.counts.FaultCounts.{FaultCounts}
use Rattle.qs_log_start.specs.declared.incarnation.ReopenFault.{ReopenFault}
use Rattle.qs_log_start.specs.declared.incarnation.ReopenFault.TheVariants as reopen_faults
use Rattle.qs_book_journal.specs.declared.entry.CrashCause.{CrashCause}
use Rattle.qs_log.specs.Log.{LogValue}
use Rattle.qs_packet.specs.declared.packet.Packet.{Packet}
use Rattle.qs_node_step.specs.declared.event.Effects.{Effects}
use Rattle.qs_node_step.specs.declared.trace.Did.TheVariants as dids
use Rattle.qs_node_step.specs.declared.trace.Did.{Did}
use Rattle.qs_cell_chronicle.specs.declared.occasion.Occasion.{Occasion}
use Rattle.qs_cell_chronicle.specs.declared.carried.Carried.{Carried}
use Rattle.qs_cell_chronicle.specs.Occasions.{event_of, taken}
use Rattle.qs_cell_chronicle.specs.Carried.{seen}
use Rattle.qs_cell_chronicle.specs.Chronicle.{crashed, noted, stamped}
use Rattle.qs_cell.specs.declared.running.Running.{Running}
use Rattle.qs_cell.specs.declared.stopped.Stopped.{Stopped}
use Rattle.qs_cell.specs.Cell.{begun, out_of, IsPastLast, IsSent, IsUnplanned}
use Rattle.qs_cell.specs.Restart.{AreNew, inc_of, found_in, restart_of}
use Rattle.qs_cell.specs.declared.stopped.Rest.{Rest}
use Rattle.qs_cell.specs.declared.stopped.Restarted.{Restarted}
use Rattle.qs_cell.specs.declared.stopped.Restarted.TheVariants as restarts

-- it has its number and its stamp, and its command is in hand
pub record HasBegun (occasion : Occasion) (old new : Carried) : Type 0 where
  pub told : new.chronicle.told ≡ begun occasion old.chronicle.told
  pub commands : new.commands ≡ taken occasion old.setting.inc old.commands
  pub crashes : new.crashes ≡ old.crashes
  pub points : new.points.items ≡ old.points.items
  pub setting : new.setting ≡ old.setting

-- the node worked out what it brings about, and no crash is to stand in place of it
pub record IsWorkedOut {D F X : Type 0} (size : ℕ) (occasion : Occasion) (old : Running D F X) (host : HostValue (FusedValue D)) (sessions : SessionsValue) (carried : Carried) (effects : Effects) (put : List Packet) : Type 0 where
  pub node : host.node ≡ worked_node size old.host (event_of occasion)
  pub saved : host.node.kept.saved ≡ old.host.node.kept.saved
  pub log : host.log ≡ old.host.log
  pub out : effects ≡ out_of size occasion old
  pub begun : HasBegun occasion old.carried carried
  pub unplanned : IsUnplanned size occasion old
  pub sent : IsSent size occasion old put sessions
  pub numbered : IsPastLast size occasion old → ⊥

-- and did it with the log
pub record HasStepped {D F X : Type 0} (size : ℕ) (occasion : Occasion) (old : Running D F X) (host : HostValue (FusedValue D)) (sessions : SessionsValue) (carried : Carried) (effects : Effects) (put : List Packet) : Type 0 where
  pub node : host.node ≡ node_after size old.host (event_of occasion)
  pub log : IsLogAfter (out_of size occasion old) old.host.log host.log
  pub out : effects ≡ out_of size occasion old
  pub begun : HasBegun occasion old.carried carried
  pub unplanned : IsUnplanned size occasion old
  pub sent : IsSent size occasion old put sessions
  pub numbered : IsPastLast size occasion old → ⊥
  pub goes : GoesOn old.host.log.disk.fuse host.log.disk.fuse

-- the crash is told, and else what is carried stays
pub record HasCrashed (did : Did) (cause : CrashCause) (old new : Carried) : Type 0 where
  pub told : new.chronicle.told ≡ crashed did cause old.chronicle.told
  pub commands : new.commands ≡ old.commands
  pub crashes : new.crashes ≡ old.crashes
  pub points : new.points.items ≡ old.points.items
  pub setting : new.setting ≡ old.setting

abbrev pub running_with : {D F X : Type 0} → HostValue (FusedValue D) → SessionsValue → Carried → Running D F X
running_with host sessions carried = record { host = host; sessions = sessions; carried = carried }

-- the node is still down with what it carries, over this disk
pub record IsLeft {D : Type 0} (own : D → ℕ) (rest : Rest) (before : FaultCounts) (left : FusedValue D) (stopped : Stopped D) (why : ReopenFault) : Type 0 where
  pub disk : stopped.disk ≡ left
  pub kept : stopped.kept ≡ rest.kept
  pub cause : stopped.cause ≡ rest.cause
  pub full : stopped.is_full ≡ rest.is_full
  pub setting : stopped.carried.setting ≡ rest.carried.setting
  pub seen : seen stopped.carried ≡ seen rest.carried
  pub tripped : (why ≡ reopen_faults.Tripped) ↔ (left.fuse.trips ≢ before.trips)
  pub failed : why ≡ reopen_faults.DiskFailed → Rose before.own (own left.disk)
  pub sound : (at : ℕ) → why ≢ reopen_faults.Damaged at

abbrev pub IsLeftDown : {D F X : Type 0} → (D → ℕ) → Rest → FaultCounts → FusedValue D → Restarted D F X → Type 0
IsLeftDown own rest before disk (restarts.Up running) = ⊥
IsLeftDown own rest before disk (restarts.Down stopped why) = IsLeft own rest before disk stopped why

-- the node is up in the incarnation of its log, with what that says
pub record IsBegun {D F X : Type 0} (alloc : Global) (log : LogValue (FusedValue D)) (rest : Rest) (new : Running D F X) : Type 0 where
  pub setting : new.carried.setting ≡ record rest.carried.setting { inc = inc_of log }
  pub host : new.host ≡ opened_host alloc new.carried.setting rest.kept log
  pub sessions : AreNew new.carried.setting new.sessions
  pub told : new.carried.chronicle.told ≡ noted (dids.Restart (inc_of log)) [] (restart_of (inc_of log) (found_in log) ∷ []) None (stamped rest.carried.chronicle.told)
  pub commands : new.carried.commands ≡ rest.carried.commands
  pub crashes : new.carried.crashes ≡ rest.carried.crashes
  pub points : new.carried.points.items ≡ rest.carried.points.items

abbrev pub Begins : {D F X : Type 0} → (D → ℕ) → Global → LogValue (FusedValue D) → Rest → FaultCounts → Restarted D F X → Type 0
Begins own alloc log rest before (restarts.Up running) = IsBegun alloc log rest running
Begins own alloc log rest before (restarts.Down stopped why) = IsLeft own rest before log.disk stopped why
