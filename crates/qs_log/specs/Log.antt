-- A log as its holder sees it, and how it stands on its disk.
use Rattle.std.specs.Prelude.{◌≡◌, ◌⊎◌, ℕ, ◌+◌, ◌-◌, ◌==◌, ◌≤◌, ◌<◌, Bool, List, [], ◌∷◌, ◌++◌, length, drop, max, Result, Ok, Err}
use Rattle.qs_disk.specs.Disk.{DiskState, IsStill, IsSize}
use Rattle.qs_disk.specs.Fuse.{FusedValue}
use Rattle.qs_record.specs.Grammar.{record_length}
use Rattle.qs_record.specs.declared.record.Record.{Record}
use Rattle.qs_record.specs.declared.record.Record.TheVariants.{Prepare, Commit, Aborted, End}
use Rattle.qs_slot.specs.Slot.{Present}
use Rattle.qs_slot.specs.Turning.{SlotsValue, HoldsSlots, turned}
use Rattle.qs_log_batch.specs.Batch.{batch_length}
use Rattle.qs_log.specs.Image.{IsLog, half, area_start}
use Rattle.qs_log.specs.declared.fault.LogOpen.{LogOpen}

-- the slots, the records that were forced, those that wait, and the bytes that the counted batches take
pub record LogValue (D : Type 0) : Type 0 where
  pub disk : D
  pub slots : SlotsValue
  pub forced : List Record
  pub waiting : List Record
  pub used : ℕ

-- all records in order
abbrev pub records_of : {D : Type 0} → LogValue D → List Record
records_of log = log.forced ++ log.waiting

-- the greater of incarnation and slot sequence
abbrev pub top_of : Present → ℕ
top_of present = max present.value.inc present.sequence

-- the batch that waits
abbrev pub waiting_length : List Record → ℕ
waiting_length [] = 0
waiting_length (r ∷ rs) = batch_length (r ∷ rs)

-- the area less the counted batches, the waiting batch and the next gate, and at least 0
abbrev pub room_of : {D : Type 0} → ℕ → LogValue D → ℕ
room_of size log = half size - log.used - waiting_length log.waiting - 1

-- a record's length, and where none waits the frame of a batch
abbrev pub need_of : List Record → Record → ℕ
need_of [] r = record_length r + 41
need_of (w ∷ ws) r = record_length r

-- the records of a server: its Prepares, and for server 7, the manager, all others
abbrev pub is_of : ℕ → Record → Bool
is_of server (Prepare tid s covers changes) = s.0 == server
is_of server (Commit tid told) = server == 7
is_of server (Aborted tid) = server == 7
is_of server (End tid) = server == 7

-- the log stands on its disk: the disk's only image has its slots and its forced records, and its gates
pub record Stands {D : Type 0} (log : LogValue D) (disk : DiskState) : Type 0 where
  pub still : IsStill disk
  pub slots : HoldsSlots log.slots disk.content
  pub forced : IsLog log.slots.present log.forced log.used disk.content

-- each image has the forced records, or these and the whole waiting batch
abbrev pub IsOldOrWhole : {D : Type 0} → LogValue D → List ℕ → Type 0
IsOldOrWhole log c =
    IsLog log.slots.present log.forced log.used c
    ⊎ IsLog log.slots.present (log.forced ++ log.waiting) (log.used + waiting_length log.waiting) c

-- the slots with the incarnation one higher
abbrev pub raised_of : Present → Present
raised_of present = turned present (record present.value { inc = present.value.inc + 1 })

-- each image has the forced records, in the slots of before or in the raised ones
abbrev pub IsOldOrRaised : {D : Type 0} → LogValue D → List ℕ → Type 0
IsOldOrRaised log c =
    IsLog log.slots.present log.forced log.used c
    ⊎ IsLog (raised_of log.slots.present) log.forced log.used c

-- the disk that an opening leaves
abbrev pub disk_of : {D : Type 0} → Result (LogValue D) (LogOpen D) → D
disk_of (Ok log) = log.disk
disk_of (Err fault) = fault.disk

-- what holds of each log, also where nothing is told of its disk: the batch has the records behind the forced
-- ones, the format is known, and what waits fits into the area with the next gate behind it
pub record IsKept (size : ℕ) (slots : SlotsValue) (records : List Record) (forced : ℕ) (batch : List Record) (used : ℕ) : Type 0 where
  pub allowed : IsSize size
  pub split : forced ≤ length records
  pub gathered : batch ≡ drop forced records
  pub format : slots.present.value.format ≡ 1
  pub next : slots.present.next < 8192
  pub within : used ≤ half size
  pub fits : 0 < length batch → used + waiting_length batch + 1 ≤ half size

-- a record needs more bytes than there is room for
pub record IsFull {D : Type 0} (size : ℕ) (log : LogValue D) (r : Record) (need room : ℕ) : Type 0 where
  pub need_is : need ≡ need_of log.waiting r
  pub room_is : room ≡ room_of size log
  pub above : room < need

-- none waits, all records are forced, and the counted batches are longer by what waited
pub record IsForced {D : Type 0} (old new : LogValue D) : Type 0 where
  pub none : new.waiting ≡ []
  pub all : new.forced ≡ records_of old
  pub used : new.used ≡ old.used + waiting_length old.waiting

-- the records and the bytes that they take stay
pub record HasSameRecords {D : Type 0} (old new : LogValue D) : Type 0 where
  pub forced : new.forced ≡ old.forced
  pub waiting : new.waiting ≡ old.waiting
  pub used : new.used ≡ old.used

-- the log with all its records forced
abbrev pub forced_of : {D : Type 0} → LogValue D → LogValue D
forced_of log = record log { forced = records_of log; waiting = []; used = log.used + waiting_length log.waiting }

-- a log that stands on a disk of so many bytes, with these waiting records, for which it has room, and its next gate
pub record IsReady {D : Type 0} (log : LogValue D) (batch : List Record) (size gate : ℕ) (disk : DiskState) : Type 0 where
  pub stands : Stands log disk
  pub waiting : batch ≡ log.waiting
  pub some : 0 < length batch
  pub sized : length disk.content ≡ size
  pub least : 8192 < size
  pub format : log.slots.present.value.format ≡ 1
  pub next : log.slots.present.next < 8192
  pub fits : log.used + waiting_length log.waiting + 1 ≤ half size
  pub place : gate ≡ area_start size log.slots.present.value.generation + log.used

-- the fuse before the disk may be another, and nothing else
pub record IsSameButFuse {D : Type 0} (old new : LogValue (FusedValue D)) : Type 0 where
  pub disk : new.disk.disk ≡ old.disk.disk
  pub slots : new.slots ≡ old.slots
  pub records : HasSameRecords old new
