-- A node over its log: what is free to a step, what the log is after it, and what a step that is cut off leaves on the disk.
use Rattle.std.specs.Prelude.{◌≡◌, ◌≢◌, ◌⊎◌, ◌&&◌, ◌==◌, ℕ, Bool, true, not, length, List, [], ◌∷◌, ◌++◌, if◌then◌else◌}
use Rattle.std.specs.Global.{Global}
use Rattle.qs_node_kept.specs.declared.kept.Kept.{Kept}
use Rattle.qs_log.specs.Image.{IsLog}
use Rattle.qs_log.specs.Log.{LogValue, records_of, room_of, forced_of}
use Rattle.qs_node.specs.Pending.{is_pending}
use Rattle.qs_node_room.specs.Room.{Tids, unended, free_room}
use Rattle.qs_record.specs.declared.record.Record.{Record}
use Rattle.qs_node_step.specs.Opening.{recovered_of, opened_node}
use Rattle.qs_node_step.specs.State.{NodeValue}
use Rattle.qs_node_step.specs.Step.{after_step, effects_of, step_work}
use Rattle.qs_node_step.specs.declared.setting.Setting.{Setting}
use Rattle.qs_node_step.specs.declared.event.Effects.{Effects}
use Rattle.qs_node_step.specs.declared.event.Event.{Event}
use Rattle.qs_tm.specs.Manager as tm

pub record HostValue (D : Type 0) : Type 0 where
  pub node : NodeValue
  pub log : LogValue D

-- a node as its incarnation begins, over a log
abbrev pub opened_host : {D : Type 0} → Global → Setting → Kept → LogValue D → HostValue D
opened_host alloc setting kept log = record { node = opened_node alloc setting (recovered_of (records_of log)) kept; log = log }

-- ---- what a step brings about

-- the bytes that it may take of the log: its room less what is kept for the transactions that are not ended
abbrev pub free_of : {D : Type 0} → ℕ → HostValue D → ℕ
free_of size host = free_room (room_of size host.log) host.node.setting.keep (unended (records_of host.log))

abbrev pub effects_at : {D : Type 0} → ℕ → HostValue D → Event → Effects
effects_at size host event = effects_of host.node event (free_of size host)

-- what the node is once it has worked that out, before it counts
abbrev pub worked_node : {D : Type 0} → ℕ → HostValue D → Event → NodeValue
worked_node size host event = (step_work host.node event (free_of size host)).node

-- and what it is after the step
abbrev pub node_after : {D : Type 0} → ℕ → HostValue D → Event → NodeValue
node_after size host event = after_step host.node event (free_of size host)

-- nothing is left to do for a transaction: none is undecided of which it is the home, none has records that are not ended,
-- and none has changes or reads, or an outcome that is still to be learnt, at a server
abbrev pub is_settled : {D : Type 0} → HostValue D → Bool
is_settled host =
    not (tm.has_undecided host.node.manager)
    && ((length (unended (records_of host.log)) == 0) && not (is_pending host.node))

-- ---- what it does with the log

-- the transactions are those that have a record in the log and are not ended there
abbrev pub AreUnended : {D : Type 0} → Tids → LogValue D → Type 0
AreUnended tids log = tids ≡ unended (records_of log)

-- a record waits behind those that wait
abbrev pub with_record : {D : Type 0} → LogValue D → Record → LogValue D
with_record log rec = record log { waiting = log.waiting ++ rec ∷ [] }

-- and so do all of a step
abbrev pub appended : {D : Type 0} → List Record → LogValue D → LogValue D
appended records log = record log { waiting = log.waiting ++ records }

-- a force puts all that wait on the disk, where one is due
abbrev pub forced_if : {D : Type 0} → Bool → LogValue D → LogValue D
forced_if due log = if due then forced_of log else log

abbrev pub log_after : {D : Type 0} → Effects → LogValue D → LogValue D
log_after out log = forced_if out.force (appended out.records log)

-- a force is due, and something waits for it
pub record HasBatch {D : Type 0} (out : Effects) (log : LogValue D) : Type 0 where
  pub force : out.force ≡ true
  pub batch : log.waiting ++ out.records ≢ []

-- the log after it, over the disk as that is then
abbrev pub IsLogAfter : {D : Type 0} → Effects → LogValue D → LogValue D → Type 0
IsLogAfter out old new = new ≡ record (log_after out old) { disk = new.disk }

-- the image has just the records of the log that were forced
abbrev pub HasForced : {D : Type 0} → LogValue D → List ℕ → Type 0
HasForced log image = IsLog log.slots.present log.forced log.used image

-- those of one log or of another
abbrev pub HasEither : {D : Type 0} → LogValue D → LogValue D → List ℕ → Type 0
HasEither old new image = HasForced old image ⊎ HasForced new image

-- those of before the step, or those of after it
abbrev pub IsOldOrAfter : {D : Type 0} → Effects → LogValue D → List ℕ → Type 0
IsOldOrAfter out old image = HasEither old (log_after out old) image
