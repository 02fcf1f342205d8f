-- The disks of a run: what the log of each held, and which of them it leaves alone.
use Rattle.std.specs.Prelude.{◌≡◌, ◌≤◌, ◌<◌, ℕ, ◌+◌, List, ◌++◌, length, map, Some, slice_get}
use Rattle.qs_base.specs.declared.identifiers.NodeNo.{NodeNo}
use Rattle.qs_disk.specs.Disk.{DiskState}
use Rattle.qs_disk.specs.Moments.{Keeps}
use Rattle.qs_log_start.specs.Incarnation.{IsTouched}
use Rattle.qs_log.specs.Image.{IsLog}
use Rattle.qs_book_machine.specs.declared.opened.Opened.{Opened}
use Rattle.qs_world_plans.specs.Plan.{setting_of}
use Rattle.qs_record.specs.declared.record.Record.{Record}
use Rattle.qs_slot.specs.Slot.{Present}
use Rattle.qs_book_script.specs.declared.script.Script.{Script}
use Rattle.qs_book_script.specs.declared.status.Status.TheVariants as statuses
use Rattle.qs_node_step.specs.Opening.{recovered_of}
use Rattle.qs_world.specs.Histories.{opened_with}
use Rattle.qs_world_left.specs.Disks.{AreCoherentDisks}
use Rattle.qs_world_rooms.specs.Rooms.{AreRoomyDisks}
use Rattle.qs_world_serial.specs.Serial.{EachBeside}

-- this is what the log of the content held, with the incarnation that it is raised to, for that node of a run of so many
pub record IsHeldBy (script : Script) (nodes : ℕ) (node : NodeNo) (content : List ℕ) (opened : Opened) : Type 0 where
  pub present : Present
  pub records : List Record
  pub used : ℕ
  pub log : IsLog present records used content
  pub opened_is : opened ≡ opened_with (setting_of script nodes node (present.value.inc + 1)) (recovered_of records)

-- ---- what is left on the disk

-- it was changed at most by the raise of its log's incarnation: at each moment each image is one of before, or the content of
-- before, or has the log of that
abbrev pub IsOnlyTouched : {D : Type 0} → Type 0 → (D → DiskState) → D → D → Type 0
IsOnlyTouched told state disk after = told → Keeps (IsTouched (state disk)) (state disk) (state after)

-- ---- the disks of a run of so many nodes, the first ones

-- P of the disk of that node, before and after
pub record AtNode {D : Type 0} (nodes : ℕ) (node : NodeNo) (P : D → D → Type 0) (old new : List D) : Type 0 where
  pub in_run : node.0 < nodes
  pub disk : D
  pub after : D
  pub old_is : slice_get old node.0 ≡ Some disk
  pub new_is : slice_get new node.0 ≡ Some after
  pub holds : P disk after

-- all others are as they were
pub record AreOthers {D : Type 0} (nodes : ℕ) (old new : List D) : Type 0 where
  pub count : length new ≡ length old
  pub each : (n : ℕ) → nodes ≤ n → slice_get new n ≡ slice_get old n

-- P of them, before and after; all others are as they were
pub record OfThese {D : Type 0} (nodes : ℕ) (P : List D → List D → Type 0) (old new : List D) : Type 0 where
  pub disks : List D
  pub afters : List D
  pub rest : List D
  pub old_is : old ≡ disks ++ rest
  pub new_is : new ≡ afters ++ rest
  pub count : length disks ≡ nodes
  pub count_after : length afters ≡ nodes
  pub holds : P disks afters

-- ---- what becomes of them

-- each was changed at most by the raise of its log's incarnation
abbrev pub AreOnlyTouched : {D : Type 0} → Type 0 → (D → DiskState) → List D → List D → Type 0
AreOnlyTouched {D} told state disks afters = EachBeside (λ n (disk : D) after. IsOnlyTouched told state disk after) disks afters

-- disks that were coherent are so again
abbrev pub StayCoherent : {D : Type 0} → Type 0 → (D → DiskState) → List D → List D → Type 0
StayCoherent told state disks afters = told → AreCoherentDisks (map state disks) → AreCoherentDisks (map state afters)

-- and where each image of each had a log with room for all that is kept there, each has it again
abbrev pub StayRoomy : {D : Type 0} → Type 0 → (D → DiskState) → (D → ℕ) → List D → List D → Type 0
StayRoomy told state size disks afters = told → AreCoherentDisks (map state disks) → AreRoomyDisks (map size disks) (map state disks) → AreRoomyDisks (map size afters) (map state afters)
