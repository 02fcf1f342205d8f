-- How the log of a node begins an incarnation, as a run begins and again after a power cut, and what that leaves on the disk.
use Rattle.std.specs.Prelude.{◌≡◌, ◌≢◌, ◌⊎◌, ℕ, ◌-◌, ◌^◌, List, [], Ok, Result, Err, ◌<◌, ◌+◌}
use Rattle.qs_disk.specs.Disk.{DiskState, IsImage, MayLeave}
use Rattle.qs_disk.specs.Fuse.{FuseValue, FusedValue, armed}
use Rattle.qs_log_start.specs.declared.incarnation.LogReopen.{LogReopen}
use Rattle.qs_log.specs.Image.{IsDamaged, IsLog}
use Rattle.qs_log.specs.Log.{LogValue, raised_of, top_of}
use Rattle.qs_record.specs.declared.record.Record.{Record}
use Rattle.qs_slot.specs.Slot.{Present, slots_in, StandBelow}
use Rattle.qs_slot.specs.Turning.{SaysAsBefore}

-- ---- the log

-- slots stand below this as a run begins
abbrev pub open_limit : ℕ
open_limit = 2 ^ 61

-- and where a node starts again
abbrev pub reopen_limit : ℕ
reopen_limit = 2 ^ 62 - 1

-- that of the content, with the incarnation one higher; no record waits
pub record IsRaisedLog {D : Type 0} (limit : ℕ) (content : List ℕ) (log : LogValue D) : Type 0 where
  pub present : Present
  pub slots : slots_in limit content ≡ Ok present
  pub records : IsLog present log.forced log.used content
  pub raised : log.slots.present ≡ raised_of present
  pub waiting : log.waiting ≡ []

-- that of an image that the power cut left
pub record IsReopened {D : Type 0} (old : DiskState) (log : LogValue D) : Type 0 where
  pub content : List ℕ
  pub image : IsImage old.now content
  pub raised : IsRaisedLog reopen_limit content log

-- ---- a log that is not opened

-- an image that the power cut left is damaged at that place, for a node that starts again
pub record IsLeftDamaged (old : DiskState) (at : ℕ) : Type 0 where
  pub content : List ℕ
  pub image : IsImage old.now content
  pub damaged : IsDamaged reopen_limit content at

-- the image has a log whose slots stand below the limit
pub record HasLogBelow (limit : ℕ) (image : List ℕ) : Type 0 where
  pub present : Present
  pub records : List Record
  pub used : ℕ
  pub log : IsLog present records used image
  pub below : StandBelow limit image

-- ---- what stands on the disk meanwhile

-- the image has the log of the content, with its incarnation or the next; and its slots stand below each limit that leaves those of the content room
-- for the next
pub record IsOldOrRaised (content c : List ℕ) : Type 0 where
  pub present : Present
  pub records : List Record
  pub used : ℕ
  pub log : IsLog present records used content
  pub says : IsLog present records used c ⊎ IsLog (raised_of present) records used c
  pub below : (limit : ℕ) → slots_in limit content ≡ Ok present → top_of present + 1 < limit → StandBelow limit c

-- an image of before, the content of before, or its log in the next incarnation
abbrev pub IsTouched : DiskState → List ℕ → Type 0
IsTouched old c = IsImage old.now c ⊎ ((c ≡ old.content) ⊎ IsOldOrRaised old.content c)

-- a power cut may still leave the log of the content as it was, with its incarnation not raised
abbrev pub MayLeaveUnraised : DiskState → DiskState → Type 0
MayLeaveUnraised old new = MayLeave (SaysAsBefore old.content) new.now

-- the image has the log of one that a power cut may have left before, with its incarnation or the next
pub record IsRaisedFrom (old : DiskState) (c : List ℕ) : Type 0 where
  pub content : List ℕ
  pub image : IsImage old.now content
  pub says : IsOldOrRaised content c

-- an image of before, or its log in the next incarnation
abbrev pub IsLeftOrRaised : DiskState → List ℕ → Type 0
IsLeftOrRaised old c = IsImage old.now c ⊎ IsRaisedFrom old c

-- the image has a log of these records
pub record HasLogOf (records : List Record) (image : List ℕ) : Type 0 where
  pub present : Present
  pub used : ℕ
  pub log : IsLog present records used image

-- of one list of records or of another
abbrev pub HasOneOf : List Record → List Record → List ℕ → Type 0
HasOneOf a b image = HasLogOf a image ⊎ HasLogOf b image

-- ---- the fuse

-- it trips at the planned calls, from 1 for the next one, and none has tripped so far
abbrev pub IsArmed : List ℕ → FuseValue → Type 0
IsArmed plan fuse = fuse ≡ armed plan

-- it tripped in between
abbrev pub HasTripped : {D : Type 0} → FusedValue D → FusedValue D → Type 0
HasTripped old new = new.fuse.trips ≢ old.fuse.trips

abbrev pub disk_of : {D : Type 0} → Result (LogValue (FusedValue D)) (LogReopen D) → FusedValue D
disk_of (Ok log) = log.disk
disk_of (Err back) = back.disk
