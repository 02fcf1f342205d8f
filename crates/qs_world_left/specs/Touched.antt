-- Disks on which no more was done than to raise the incarnation of their logs, as a run did not begin on all of them: they stay coherent.
use Rattle.std.specs.Prelude.{◌≡◌, ℕ, List, length, Some, slice_get}
use Rattle.qs_disk.specs.Disk.{DiskState, EachImage, IsImage}
use Rattle.qs_log_start.specs.Incarnation.{IsTouched}
use Rattle.qs_world_left.specs.Disks.{AreCoherentDisks}

-- each image is one of before, or the content, or has the log of the content in the next incarnation; and what a read gave was an image
pub record WasTouched (old new : DiskState) : Type 0 where
  pub read : IsImage old.now old.content
  pub images : EachImage (IsTouched old) new.now

pub record WereTouched (old new : List DiskState) : Type 0 where
  pub count : length new ≡ length old
  pub each : (n : ℕ) (a b : DiskState) → slice_get old n ≡ Some a → slice_get new n ≡ Some b → WasTouched a b

abbrev pub TouchedStayCoherent : List DiskState → List DiskState → Type 0
TouchedStayCoherent old new = WereTouched old new → AreCoherentDisks old → AreCoherentDisks new
