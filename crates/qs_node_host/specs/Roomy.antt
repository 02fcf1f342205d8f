-- A host whose log has room for all that is kept there: what a step finds of that, and what it leaves.
use Rattle.std.specs.Prelude.{◌≡◌, ◌≤◌, ◌<◌, ℕ, ◌+◌, true, List, ◌∷◌, ◌++◌}
use Rattle.std.specs.List.{list_all}
use Rattle.qs_node_room.specs.Fits.{AgreesAll, BeginsNew, IsEnough}
use Rattle.qs_node_room.specs.Kept.{kept_of, total}
use Rattle.qs_node_room.specs.Logs.{HasRooms, IsRoomyAfter}
use Rattle.qs_node_room.specs.Opens.{are_named, is_short}
use Rattle.qs_log.specs.Image.{IsLog, half}
use Rattle.qs_log.specs.Log.{LogValue, need_of, records_of, room_of}
use Rattle.qs_log.specs.declared.fault.AppendFault.{AppendFault}
use Rattle.qs_log.specs.declared.fault.AppendFault.TheVariants as append_faults
use Rattle.qs_record.specs.declared.record.Record.{Record}
use Rattle.qs_restart.specs.Recovery.{recovery}
use Rattle.qs_slot.specs.Slot.{Present}
use Rattle.qs_node_step.specs.Restarts.{begin_incarnation}
use Rattle.qs_node_step.specs.State.{work_on}
use Rattle.qs_node_step.specs.Step.{accept}
use Rattle.qs_node_step.specs.declared.event.Effects.{Effects}
use Rattle.qs_node_step.specs.declared.event.Event.{Event}
use Rattle.qs_node_step.specs.declared.setting.Setting.{Setting}
use Rattle.qs_node_host.specs.Host.{HostValue, appended, free_of}
use Rattle.qs_node_host.specs.declared.fault.HostFault.{HostFault}
use Rattle.qs_node_host.specs.declared.fault.HostFault.TheVariants as faults

-- ---- a log with no room

-- why the log does not take a record
abbrev pub refusal_of : AppendFault → HostFault
refusal_of (append_faults.LogFull need room) = faults.NoRoom
refusal_of append_faults.NoMemory = faults.NoMemory

-- it has none for the record
abbrev pub IsFullFor : {D : Type 0} → ℕ → LogValue D → Record → Type 0
IsFullFor size log rec = room_of size log < need_of log.waiting rec

-- it has none for one of the records as its turn comes
pub record LacksRoom {D : Type 0} (size : ℕ) (log : LogValue D) (records : List Record) : Type 0 where
  pub done : List Record
  pub rec : Record
  pub more : List Record
  pub split : records ≡ done ++ rec ∷ more
  pub full : IsFullFor size (appended done log) rec

-- ---- a host whose log has room

-- the node knows what its log keeps for each transaction, and the log has room for all of that
pub record IsRoomyHost {D : Type 0} (keep size : ℕ) (host : HostValue D) : Type 0 where
  pub enough : IsEnough keep 0
  pub agrees : AgreesAll keep 0 host.node (kept_of keep 0 (records_of host.log))
  pub rooms : HasRooms keep (half size) host.log.used host.log.forced host.log.waiting

-- what a client begins is not known to the node
abbrev pub BeginsNewAt : {D : Type 0} → ℕ → HostValue D → Event → Type 0
BeginsNewAt size host event = BeginsNew event (begin_incarnation (work_on host.node (free_of size host)))

-- the step that the host worked out finds room for its records, and leaves the host so
pub record IsWorkedRoomy {D : Type 0} (keep size : ℕ) (host : HostValue D) (out : Effects) : Type 0 where
  pub enough : IsEnough keep 0
  pub after : IsRoomyAfter keep (half size) host.log.used host.log.forced host.log.waiting out.records (accept host.node)

-- ---- what a power cut leaves

-- an image of a log that has room for all that is kept there
pub record HasRoomyLog (keep size : ℕ) (image : List ℕ) : Type 0 where
  pub present : Present
  pub records : List Record
  pub used : ℕ
  pub log : IsLog present records used image
  pub rooms : used + 1 + total (kept_of keep 0 records) ≤ half size

-- a node that opens over such a log knows what is kept there: its Commits name no more nodes than there are, and what is in doubt or still to be told
-- is of transactions
pub record OpensRoomy {D : Type 0} (keep size : ℕ) (setting : Setting) (log : LogValue D) : Type 0 where
  pub enough : IsEnough keep 0
  pub keep_is : setting.keep ≡ keep
  pub extra_is : setting.extra ≡ 0
  pub short : list_all is_short (records_of log) ≡ true
  pub named : are_named (recovery (records_of log)) ≡ true
  pub rooms : HasRooms keep (half size) log.used log.forced log.waiting
