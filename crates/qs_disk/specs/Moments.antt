-- What holds of each image at each moment of a stretch of calls.
use Rattle.std.specs.Prelude.{◌≡◌, ℕ, List, [], ◌∷◌, ◌++◌, ⊤}
use Rattle.qs_disk.specs.Disk.{Frame, DiskState, EachImage}

-- each image of each frame has P
abbrev pub AtEach : (List ℕ → Type 0) → List Frame → Type 0
AtEach P [] = ⊤
AtEach P (f ∷ fs) = EachImage P f × AtEach P fs

-- at each moment from old to new, both included, each image has P
pub record Keeps (P : List ℕ → Type 0) (old new : DiskState) : Type 0 where
  pub between : List Frame
  pub grows : new.past ≡ old.past ++ between
  pub each : AtEach P between
  pub here : EachImage P new.now
