-- The log of an image of a disk: the header slots, and the batches that the live area counts.
use Rattle.std.specs.Prelude.{◌≡◌, ℕ, ◌+◌, ◌-◌, ◌/◌, ◌%◌, ◌==◌, ◌^◌, List, length, if◌then◌else◌, Ok, Err}
use Rattle.qs_log_batch.specs.Batch.{IsCounted, IsBroken}
use Rattle.qs_disk.specs.Disk.{range}
use Rattle.qs_record.specs.declared.record.Record.{Record}
use Rattle.qs_slot.specs.Slot.{Present, slots_in}

-- each of the two areas has half of what the slots leave
abbrev pub half : ℕ → ℕ
half size = (size - 8192) / 2

-- area A where the generation is even, and area B, behind it, where it is odd
abbrev pub area_start : ℕ → ℕ → ℕ
area_start size generation = if generation % 2 == 0 then 8192 else 8192 + half size

abbrev pub live_area : ℕ → List ℕ → List ℕ
live_area generation bytes = range (area_start (length bytes) generation) (half (length bytes)) bytes

-- the log of an image: what its slots say, its records, and how many bytes the counted batches take
pub record IsLog (present : Present) (records : List Record) (used : ℕ) (image : List ℕ) : Type 0 where
  pub slots : slots_in (2 ^ 62) image ≡ Ok present
  pub counted : IsCounted present.value.format (live_area present.value.generation image) records used

-- an image with no log: a slot is damaged there, or a batch of the live area is
pub data IsDamaged (limit : ℕ) (image : List ℕ) (at : ℕ) : Type 0 where
  InSlot : slots_in limit image ≡ Err at → IsDamaged limit image at
  InBatch : (present : Present) (place : ℕ) → slots_in limit image ≡ Ok present
      → IsBroken present.value.format (live_area present.value.generation image) place
      → at ≡ area_start (length image) present.value.generation + place → IsDamaged limit image at

-- an area that begins at a place of the disk is broken where this is its place on the disk
pub record IsBrokenBehind (start format : ℕ) (area : List ℕ) (at : ℕ) : Type 0 where
  pub place : ℕ
  pub behind : at ≡ start + place
  pub broken : IsBroken format area place
