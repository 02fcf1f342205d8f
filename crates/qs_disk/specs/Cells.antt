-- The bytes of a disk in memory, and where its images may differ from them.
use Rattle.std.specs.Prelude.{◌≡◌, ◌≤◌, ℕ, ◌-◌, Bool, false, List, [], ◌∷◌, ◌++◌, length, take, drop, replicate, ⊤}
use Rattle.qs_disk.specs.Disk.{Frame, Matches}

-- what a read gives, and what a power cut goes by
pub record CellsValue : Type 0 where
  pub content : List ℕ
  pub now : Frame

-- no place is loose
abbrev pub IsQuiet : List Bool → Type 0
IsQuiet [] = ⊤
IsQuiet (l ∷ loose) = (l ≡ false) × IsQuiet loose

-- the flags of `from .. to` set
abbrev pub marked : ℕ → ℕ → Bool → List Bool → List Bool
marked from to flag loose = take from loose ++ replicate (to - from) flag ++ drop to loose

-- the content is an image, and no place outside `from .. to` is loose
pub record IsWithin (content stable : List ℕ) (loose : List Bool) (from to : ℕ) : Type 0 where
  pub image : Matches stable loose content
  pub bytes : length stable ≡ length content
  pub flags : length loose ≡ length content
  pub start : from ≤ length content
  pub stop : to ≤ length content
  pub before : IsQuiet (take from loose)
  pub after : IsQuiet (drop to loose)
