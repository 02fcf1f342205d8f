-- What many disks have for logs: whichever image a power cut leaves of each, a run may begin over them all.
use Rattle.std.specs.Prelude.{◌≡◌, ℕ, ◌+◌, ◌<◌, List, [], ◌∷◌, length, map, replicate, Option, Some, None, slice_get}
use Rattle.std.specs.Global.{Global}
use Rattle.qs_cell.specs.State.{disk_of}
use Rattle.qs_disk.specs.Disk.{DiskState, EachImage, IsImage}
use Rattle.qs_log.specs.Image.{IsLog}
use Rattle.qs_record.specs.declared.record.Record.{Record}
use Rattle.qs_slot.specs.Slot.{Present}
use Rattle.qs_world_opening.specs.Coherent.{AreCoherentLogs, IsCoherentDisk}
use Rattle.qs_world_rounds.specs.Rounds.{Cast}

-- ---- images, by the numbers of their nodes

-- an image has this log
pub record ShowsLog (image : List ℕ) (present : Present) (records : List Record) : Type 0 where
  pub used : ℕ
  pub log : IsLog present records used image

-- an image has some log
pub record HasSomeLog (image : List ℕ) : Type 0 where
  pub present : Present
  pub records : List Record
  pub shows : ShowsLog image present records

-- each of so many images has this log
abbrev pub ShowLogs : ℕ → (ℕ → List ℕ) → (ℕ → Present) → (ℕ → List Record) → Type 0
ShowLogs size images presents records = (n : ℕ) → n < size → ShowsLog (images n) (presents n) (records n)

-- their logs stand together, each in the incarnation after its last
abbrev pub AreCoherentImages : Global → ℕ → (ℕ → List ℕ) → Type 0
AreCoherentImages alloc size images =
    (presents : ℕ → Present) (records : ℕ → List Record) → ShowLogs size images presents records → AreCoherentLogs alloc size (λ n. (presents n).value.inc + 1) records

-- so do those of images of zeros, which are empty
abbrev pub FreshAreCoherent : Global → ℕ → (ℕ → ℕ) → Type 0
FreshAreCoherent alloc size lengths = AreCoherentImages alloc size (λ n. replicate (lengths n) 0)

-- ---- disks, by the numbers of their nodes

-- one image of each
abbrev pub AreImagesOf : List DiskState → (ℕ → List ℕ) → Type 0
AreImagesOf disks images = (n : ℕ) (disk : DiskState) → slice_get disks n ≡ Some disk → IsImage disk.now (images n)

-- the logs of each choice of images are coherent
abbrev pub AreCoherentDisks : List DiskState → Type 0
AreCoherentDisks disks = (alloc : Global) (images : ℕ → List ℕ) → AreImagesOf disks images → AreCoherentImages alloc (length disks) images

-- each image of each disk has a log at all
abbrev pub HaveLogs : List DiskState → Type 0
HaveLogs disks = (n : ℕ) (disk : DiskState) → slice_get disks n ≡ Some disk → EachImage HasSomeLog disk.now

-- one disk is so where the log of each of its images is coherent
pub record OneIsCoherent (disk : DiskState) : Type 0 where
  pub alone : AreCoherentDisks (disk ∷ []) → IsCoherentDisk disk
  pub among : IsCoherentDisk disk → AreCoherentDisks (disk ∷ [])

-- what a read gives of each
abbrev pub content_by : Option DiskState → List ℕ
content_by None = []
content_by (Some disk) = disk.content

abbrev pub content_at : List DiskState → ℕ → List ℕ
content_at disks n = content_by (slice_get disks n)

-- ---- the disks of sites

abbrev pub disk_state : {D : Type 0} → (D → DiskState) → Cast D → DiskState
disk_state state site = state (disk_of site.node.seat.node).disk

abbrev pub disks_of : {D : Type 0} → (D → DiskState) → List (Cast D) → List DiskState
disks_of state sites = map (disk_state state) sites

-- they are left coherent
abbrev pub LeaveCoherent : {D : Type 0} → (D → DiskState) → List (Cast D) → Type 0
LeaveCoherent state sites = AreCoherentDisks (disks_of state sites)
