-- What a restart finds on the disk, and what it makes of the cell.
use Rattle.std.specs.Prelude.{◌≡◌, ◌↔◌, ℕ, true, [], ◌∷◌, map, None}
use Rattle.std.specs.Global.{Global}
use Rattle.qs_base.specs.Causes.{Rose}
use Rattle.qs_cell_peers.specs.Sessions.{SessionsValue, ends_of, is_peer_of}
use Rattle.qs_disk.specs.Disk.{DiskState}
use Rattle.qs_disk.specs.Fuse.{FusedValue}
use Rattle.qs_log_start.specs.Incarnation.{HasTripped, IsLeftDamaged}
use Rattle.qs_log_start.specs.declared.incarnation.ReopenFault.{ReopenFault}
use Rattle.qs_log_start.specs.declared.incarnation.ReopenFault.TheVariants as reopen_faults
use Rattle.qs_book_journal.specs.declared.entry.Act.{Act}
use Rattle.qs_book_journal.specs.declared.entry.Act.TheVariants as acts
use Rattle.qs_book_journal.specs.declared.entry.Found.{Found}
use Rattle.qs_log.specs.Log.{LogValue, records_of}
use Rattle.qs_session_channels.specs.End.{fresh}
use Rattle.qs_restart.specs.declared.recovered.OpenVote.{OpenVote}
use Rattle.qs_restart.specs.declared.recovered.Recovered.{Recovered}
use Rattle.qs_node_step.specs.Opening.{recovered_of, opened_node}
use Rattle.qs_node_step.specs.declared.setting.Setting.{Setting}
use Rattle.qs_node_step.specs.declared.trace.Did.TheVariants as dids
use Rattle.qs_cell.specs.declared.running.Running.{Running}
use Rattle.qs_cell.specs.declared.stopped.Restarted.{Restarted}
use Rattle.qs_cell.specs.declared.stopped.Restarted.TheVariants as restarts
use Rattle.qs_cell.specs.declared.stopped.Stopped.{Stopped}
use Rattle.qs_cell_chronicle.specs.Carried.{Seen, seen}
use Rattle.qs_cell_chronicle.specs.Chronicle.{stamped, in_round, noted}

-- ---- what it makes of the cell

abbrev pub found_of : OpenVote → Found
found_of vote = record { tid = vote.tid; server = vote.server; covers = vote.covers }

abbrev pub restart_of : ℕ → Recovered → Act
restart_of inc found = acts.Restart inc (map found_of found.votes) found.committed

-- it is a step of its own, with the next stamp
abbrev pub risen : ℕ → Recovered → Seen → Seen
risen inc found s = record s { told = noted (dids.Restart inc) [] (restart_of inc found ∷ []) None (stamped (in_round s.told)) }

abbrev pub inc_of : {D : Type 0} → LogValue D → ℕ
inc_of log = log.slots.present.value.inc

abbrev pub found_in : {D : Type 0} → LogValue D → Recovered
found_in log = recovered_of (records_of log)

-- the sessions of a node whose incarnation has met nobody
pub record AreNew (setting : Setting) (sessions : SessionsValue) : Type 0 where
  pub size : sessions.size ≡ setting.nodes
  pub me : sessions.me ≡ setting.node
  pub fresh : (m : ℕ) → is_peer_of sessions m ≡ true → ends_of sessions m ≡ fresh setting.inc

-- the node is up in the incarnation that its log was raised to, with what the log says and what it kept for its clients
pub record IsUp {D F X : Type 0} (alloc : Global) (old : Stopped D) (new : Running D F X) : Type 0 where
  pub setting : new.carried.setting ≡ record old.carried.setting { inc = inc_of new.host.log }
  pub node : new.host.node ≡ opened_node alloc new.carried.setting (found_in new.host.log) old.kept
  pub sessions : AreNew new.carried.setting new.sessions
  pub seen : seen new.carried ≡ risen (inc_of new.host.log) (found_in new.host.log) (seen old.carried)

-- one more round
abbrev pub in_round_as : Seen → Seen
in_round_as s = record s { told = in_round s.told }

-- it is still down: but for the disk and the count of rounds all is as it was
pub record IsStillDown {D : Type 0} (old new : Stopped D) : Type 0 where
  pub kept : new.kept ≡ old.kept
  pub cause : new.cause ≡ old.cause
  pub full : new.is_full ≡ old.is_full
  pub setting : new.carried.setting ≡ old.carried.setting
  pub seen : seen new.carried ≡ in_round_as (seen old.carried)

-- it tells a trip exactly where the fuse tripped, and a fault only where the disk's own count rose
pub record IsWhyDown {D : Type 0} (own : D → ℕ) (old new : FusedValue D) (why : ReopenFault) : Type 0 where
  pub tripped : (why ≡ reopen_faults.Tripped) ↔ HasTripped old new
  pub failed : why ≡ reopen_faults.DiskFailed → Rose (own old.disk) (own new.disk)

abbrev pub IsRestarted : {D F X : Type 0} → (D → ℕ) → Global → Stopped D → Restarted D F X → Type 0
IsRestarted own alloc old (restarts.Up running) = IsUp alloc old running
IsRestarted own alloc old (restarts.Down stopped why) = IsStillDown old stopped × IsWhyDown own old.disk stopped.disk why

-- where it is up, its log has this
abbrev pub IfUp : {D F X : Type 0} → Restarted D F X → (LogValue (FusedValue D) → Type 0) → Type 0
IfUp (restarts.Up running) P = P running.host.log
IfUp (restarts.Down stopped why) P = Unit {0}

abbrev pub restarted_disk : {D F X : Type 0} → Restarted D F X → FusedValue D
restarted_disk (restarts.Up running) = running.host.log.disk
restarted_disk (restarts.Down stopped why) = stopped.disk

-- where it is down for damage, an image that the power cut left is damaged there
abbrev pub IfDamaged : {D F X : Type 0} → Restarted D F X → DiskState → Type 0
IfDamaged (restarts.Up running) old = Unit {0}
IfDamaged (restarts.Down stopped why) old = (at : ℕ) → why ≡ reopen_faults.Damaged at → IsLeftDamaged old at
