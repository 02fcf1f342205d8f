-- What an event of a cell does: a whole step, a crash right behind it, a crash in place of it, or one that cuts it off.
use Rattle.std.specs.Prelude.{◌≡◌, ◌≢◌, ◌⊎◌, ℕ, ◌==◌, ◌-◌, ◌^◌, ◌&&◌, Bool, true, false, List, [], ◌++◌, map, Option, Some, None, if◌then◌else◌}
use Rattle.std.specs.List.{list_any}
use Rattle.qs_base.specs.Causes.{Rose}
use Rattle.qs_base.specs.declared.memory.GrowFault.{GrowFault}
use Rattle.qs_base.specs.declared.memory.GrowFault.TheVariants as grow_faults
use Rattle.qs_cell_peers.specs.Sessions.{LacksNumber, SessionsValue}
use Rattle.qs_cell_peers.specs.Steps.{Sends}
use Rattle.qs_disk.specs.Disk.{DiskState}
use Rattle.qs_disk.specs.Fuse.{FusedValue, GoesOn, fused_count}
use Rattle.qs_engage.specs.Engage.{last_number}
use Rattle.qs_node_host.specs.Host.{effects_at, worked_node, node_after, log_after, IsLogAfter}
use Rattle.qs_node_host.specs.Roomy.{LacksRoom}
use Rattle.qs_book_journal.specs.declared.entry.CrashCause.{CrashCause}
use Rattle.qs_book_journal.specs.declared.entry.CrashCause.TheVariants as causes
use Rattle.qs_log.specs.Log.{LogValue, Stands}
use Rattle.qs_book_machine.specs.Clauses.{is_crash}
use Rattle.qs_node_kept.specs.declared.kept.KeptLabel.{KeptLabel}
use Rattle.qs_packet.specs.declared.packet.Packet.{Packet}
use Rattle.qs_node_step.specs.Counted.{is_all_counted}
use Rattle.qs_node_step.specs.State.{NodeValue}
use Rattle.qs_node_step.specs.declared.event.ClientAnswer.{ClientAnswer}
use Rattle.qs_node_step.specs.declared.event.Effects.{Effects}
use Rattle.qs_node_step.specs.declared.trace.Did.TheVariants as dids
use Rattle.qs_cell_chronicle.specs.declared.occasion.Occasion.{Occasion}
use Rattle.qs_cell_chronicle.specs.declared.occasion.Occasion.TheVariants as occasions
use Rattle.qs_cell_chronicle.specs.declared.points.Watched.{Watched}
use Rattle.qs_cell.specs.Outcomes.{Outcome}
use Rattle.qs_cell.specs.Outcomes as outcomes
use Rattle.qs_cell.specs.declared.running.Running.{Running}
use Rattle.qs_cell.specs.declared.stopped.Stopped.{Stopped}
use Rattle.qs_cell_chronicle.specs.Carried.{Seen, seen, answered, is_replaced}
use Rattle.qs_cell_chronicle.specs.Occasions.{event_of, did_of, stamp_in, taken}
use Rattle.qs_cell_chronicle.specs.Chronicle.{Told, counted, last_stamp, is_last_past, stamped, stamped_past, numbered, noted, crashed}
use Rattle.qs_cell_chronicle.specs.Points.{stops_before, stops_after, spent, after_entries}

-- ---- what it does to what the cell carries

-- the event has its number, and the step its stamp, which is greater than that of a packet that comes, whether it is made or not
abbrev pub begun_past : ℕ → Told → Told
begun_past other told = stamped_past other (numbered told)

abbrev pub begun : Occasion → Told → Told
begun occasion told = begun_past (stamp_in occasion) told

-- the step stands whole, and puts these packets to the links; the node has met these labels then
abbrev pub stepped : Occasion → ℕ → List KeptLabel → Effects → List Packet → Seen → Seen
stepped occasion inc labels out put s = record s {
  told = noted (did_of occasion) put out.entries None (begun occasion s.told);
  commands = answered out.answers (taken occasion inc s.commands);
  points = map (after_entries labels out.entries) s.points;
}

-- ---- why it is not made

-- the stamp stands at its last value, or a line of the script names the event's number
abbrev pub why_not : Bool → Bool → Option CrashCause
why_not at_last replaced = if at_last then Some (causes.Last last_stamp) else if replaced then Some causes.Plan else None

abbrev pub ordered_past : ℕ → Seen → Option CrashCause
ordered_past other s = why_not (is_last_past other s.told) (is_replaced (counted s.told.events) s.crashes)

abbrev pub ordered : Occasion → Seen → Option CrashCause
ordered occasion s = ordered_past (stamp_in occasion) s

-- what waits is served where all of it can be counted
abbrev pub may_make : NodeValue → Occasion → Bool
may_make node (occasions.Command line) = true
may_make node occasions.Queues = is_all_counted node
may_make node occasions.Clock = true
may_make node (occasions.Message packet) = true
may_make node (occasions.Restarted packet old) = true

-- or it would raise a count past its last value; or a line names the first entry of its kind, and the whole step would make it
abbrev pub held_back : Bool → Bool → Option CrashCause
held_back may stops = if may then (if stops then Some causes.Plan else None) else Some (causes.Last last_number)

abbrev pub planned_after : Bool → Bool → Option CrashCause → Option CrashCause
planned_after may stops (Some cause) = Some cause
planned_after may stops None = held_back may stops

abbrev pub planned : Occasion → Bool → Bool → Seen → Option CrashCause
planned occasion may stops s = planned_after may stops (ordered occasion s)

-- that line stops the node once
abbrev pub spent_after : Bool → List KeptLabel → Effects → Seen → Option CrashCause → List Watched
spent_after may labels out s (Some cause) = s.points
spent_after may labels out s None = if may then spent labels out.entries s.points else s.points

-- a fault of the disk is by plan where the fuse before it tripped, and else the disk's own, whose count of faults rose or stands at its last value;
-- where neither count tells it, as that of trips stands at its last value, the fuse tripped
abbrev pub fault_cause : {D : Type 0} → (D → ℕ) → FusedValue D → FusedValue D → CrashCause
fault_cause own before now =
    if (before.fuse.trips == now.fuse.trips) && is_crash (causes.Disk (own before.disk) (own now.disk)) then causes.Disk (own before.disk) (own now.disk)
    else causes.Plan

-- ---- what comes of an event

abbrev pub out_of : {D F X : Type 0} → ℕ → Occasion → Running D F X → Effects
out_of size occasion old = effects_at size old.host (event_of occasion)

-- the labels that the node has met once it is worked out
abbrev pub labels_of : {D F X : Type 0} → ℕ → Occasion → Running D F X → List KeptLabel
labels_of size occasion old = (worked_node size old.host (event_of occasion)).kept.now.labels

-- a line stops the node in place of it, or right behind it
abbrev pub is_forestalled : {D F X : Type 0} → ℕ → Occasion → Running D F X → Bool
is_forestalled size occasion old = list_any (stops_before (labels_of size occasion old) (out_of size occasion old).entries) old.carried.points.items

abbrev pub is_followed : {D F X : Type 0} → ℕ → Occasion → Running D F X → Bool
is_followed size occasion old = list_any (stops_after (labels_of size occasion old) (out_of size occasion old).entries) old.carried.points.items

abbrev pub planned_for : {D F X : Type 0} → ℕ → Occasion → Running D F X → Option CrashCause
planned_for size occasion old = planned occasion (may_make old.host.node occasion) (is_forestalled size occasion old) (seen old.carried)

-- no crash is to stand in place of it
abbrev pub IsUnplanned : {D F X : Type 0} → ℕ → Occasion → Running D F X → Type 0
IsUnplanned size occasion old = planned_for size occasion old ≡ None

-- ---- what it sends

-- sessions tick as time passes
abbrev pub ticks : Occasion → Bool
ticks (occasions.Command line) = false
ticks occasions.Queues = false
ticks occasions.Clock = true
ticks (occasions.Message packet) = false
ticks (occasions.Restarted packet old) = false

-- the step's messages go over the node's sessions with the step's stamp, in order; what goes of them is put to the links
abbrev pub IsSent : {D F X : Type 0} → ℕ → Occasion → Running D F X → List Packet → SessionsValue → Type 0
IsSent size occasion old put new = Sends (ticks occasion) (begun occasion old.carried.chronicle.told).stamp (out_of size occasion old).messages old.sessions put new

-- why a node stops whose sessions could not send
abbrev pub unsent_cause : GrowFault → CrashCause
unsent_cause (grow_faults.Last value) = causes.Last value
unsent_cause grow_faults.NoMemory = causes.Memory

-- a message would get a number past the last one
abbrev pub IsPastLast : {D F X : Type 0} → ℕ → Occasion → Running D F X → Type 0
IsPastLast size occasion old = LacksNumber old.sessions (out_of size occasion old).messages

-- ---- what comes of it

-- a whole step: no crash was to stand in place of it or behind it
pub record IsWhole {D F X : Type 0} (size : ℕ) (occasion : Occasion) (old new : Running D F X) (said : List ClientAnswer) : Type 0 where
  pub put : List Packet
  pub sent : IsSent size occasion old put new.sessions
  pub node : new.host.node ≡ node_after size old.host (event_of occasion)
  pub log : IsLogAfter (out_of size occasion old) old.host.log new.host.log
  pub answers : said ≡ (out_of size occasion old).answers
  pub seen : seen new.carried ≡ stepped occasion old.carried.setting.inc (labels_of size occasion old) (out_of size occasion old) put (seen old.carried)
  pub setting : new.carried.setting ≡ old.carried.setting
  pub unplanned : IsUnplanned size occasion old
  pub numbered : IsPastLast size occasion old → ⊥
  pub unfollowed : is_followed size occasion old ≡ false
  pub goes : GoesOn old.host.log.disk.fuse new.host.log.disk.fuse

-- a node stops behind a step: it is a step of its own with the next stamp, in which nothing is done
abbrev pub stopped_behind : Seen → Seen
stopped_behind s = record s { told = crashed dids.Nothing causes.Plan (stamped s.told) }

-- a whole step, and a crash right behind it
pub record IsFollowed {D F X : Type 0} (size : ℕ) (occasion : Occasion) (old : Running D F X) (new : Stopped D) (said : List ClientAnswer) : Type 0 where
  pub put : List Packet
  pub left : SessionsValue
  pub sent : IsSent size occasion old put left
  pub kept : new.kept ≡ (node_after size old.host (event_of occasion)).kept.saved
  pub answers : said ≡ (out_of size occasion old).answers
  pub cause : new.cause ≡ causes.Plan
  pub seen : seen new.carried ≡ stopped_behind (stepped occasion old.carried.setting.inc (labels_of size occasion old) (out_of size occasion old) put (seen old.carried))
  pub setting : new.carried.setting ≡ old.carried.setting
  pub unplanned : IsUnplanned size occasion old
  pub numbered : IsPastLast size occasion old → ⊥
  pub followed : is_followed size occasion old ≡ true
  pub full : new.is_full ≡ false
  pub goes : GoesOn old.host.log.disk.fuse new.disk.fuse

-- as the script has it, or the last value of the stamp or of a count
pub record IsAsPlanned {D F X : Type 0} (size : ℕ) (occasion : Occasion) (old : Running D F X) (new : Stopped D) : Type 0 where
  pub cause : planned_for size occasion old ≡ Some new.cause
  pub commands : new.carried.commands ≡ taken occasion old.carried.setting.inc old.carried.commands
  pub points : new.carried.points.items ≡ spent_after (may_make old.host.node occasion) (labels_of size occasion old) (out_of size occasion old) (seen old.carried) (ordered occasion (seen old.carried))

-- as a message has no number left, of which the session tells its last value
pub record IsUnnumbered {D F X : Type 0} (size : ℕ) (occasion : Occasion) (old : Running D F X) (new : Stopped D) : Type 0 where
  pub unplanned : IsUnplanned size occasion old
  pub lacks : IsPastLast size occasion old
  pub cause : new.cause ≡ causes.Last (2 ^ 62 - 1)
  pub commands : new.carried.commands ≡ taken occasion old.carried.setting.inc old.carried.commands
  pub points : new.carried.points.items ≡ old.carried.points.items

-- a crash in place of the event: nothing of it is done, and the disk is as it was
pub record IsReplaced {D F X : Type 0} (size : ℕ) (occasion : Occasion) (old : Running D F X) (new : Stopped D) : Type 0 where
  pub disk : new.disk ≡ old.host.log.disk
  pub kept : new.kept ≡ old.host.node.kept.saved
  pub told : new.carried.chronicle.told ≡ crashed (did_of occasion) new.cause (begun occasion old.carried.chronicle.told)
  pub crashes : new.carried.crashes ≡ old.carried.crashes
  pub setting : new.carried.setting ≡ old.carried.setting
  pub full : new.is_full ≡ false
  pub why : (new.cause ≡ causes.Memory) ⊎ (IsAsPlanned size occasion old new ⊎ IsUnnumbered size occasion old new)

-- a call of the disk failed, as the batch of the step was forced
pub record IsFaulted {D F X : Type 0} (own : D → ℕ) (size : ℕ) (occasion : Occasion) (old : Running D F X) (new : Stopped D) : Type 0 where
  pub force : (out_of size occasion old).force ≡ true
  pub batch : old.host.log.waiting ++ (out_of size occasion old).records ≢ []
  pub cause : new.cause ≡ fault_cause own old.host.log.disk new.disk
  pub rose : Rose (fused_count own old.host.log.disk) (fused_count own new.disk)
  pub full : new.is_full ≡ false

-- memory was refused; or the log had no room for a record of the step, which is told beside
pub record IsRefused {D F X : Type 0} (size : ℕ) (occasion : Occasion) (old : Running D F X) (new : Stopped D) : Type 0 where
  pub cause : new.cause ≡ causes.Memory
  pub full : new.is_full ≡ true → LacksRoom size old.host.log (out_of size occasion old).records

-- a crash within the step: it makes no entry but its own, and is answered by none
pub record IsCutOff {D F X : Type 0} (own : D → ℕ) (size : ℕ) (occasion : Occasion) (old : Running D F X) (new : Stopped D) : Type 0 where
  pub kept : new.kept ≡ old.host.node.kept.saved
  pub told : new.carried.chronicle.told ≡ crashed (did_of occasion) new.cause (begun occasion old.carried.chronicle.told)
  pub commands : new.carried.commands ≡ taken occasion old.carried.setting.inc old.carried.commands
  pub crashes : new.carried.crashes ≡ old.carried.crashes
  pub points : new.carried.points.items ≡ old.carried.points.items
  pub setting : new.carried.setting ≡ old.carried.setting
  pub unplanned : IsUnplanned size occasion old
  pub numbered : IsPastLast size occasion old → ⊥
  pub goes : GoesOn old.host.log.disk.fuse new.disk.fuse
  pub why : IsRefused size occasion old new ⊎ IsFaulted own size occasion old new

abbrev pub IsOutcome : {D F X : Type 0} → (D → ℕ) → ℕ → Occasion → Running D F X → Outcome D F X → Type 0
IsOutcome own size occasion old (outcomes.Whole running answers) = IsWhole size occasion old running answers
IsOutcome own size occasion old (outcomes.Followed stopped answers) = IsFollowed size occasion old stopped answers
IsOutcome own size occasion old (outcomes.Replaced stopped) = IsReplaced size occasion old stopped
IsOutcome own size occasion old (outcomes.CutOff stopped) = IsCutOff own size occasion old stopped

-- the disk after it
abbrev pub disk_after : {D F X : Type 0} → Outcome D F X → FusedValue D
disk_after (outcomes.Whole running answers) = running.host.log.disk
disk_after (outcomes.Followed stopped answers) = stopped.disk
disk_after (outcomes.Replaced stopped) = stopped.disk
disk_after (outcomes.CutOff stopped) = stopped.disk

-- where the step stands, the disk after it has this
abbrev pub IfStands : {D F X : Type 0} → Outcome D F X → (FusedValue D → Type 0) → Type 0
IfStands (outcomes.Whole running answers) P = P running.host.log.disk
IfStands (outcomes.Followed stopped answers) P = P stopped.disk
IfStands outcome P = Unit {0}

-- and with it the log after the step
abbrev pub StandsAfter : {D : Type 0} → Effects → LogValue (FusedValue D) → FusedValue D → DiskState → Type 0
StandsAfter out old disk state = Stands (record (log_after out old) { disk = disk }) state
