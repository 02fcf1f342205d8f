-- A reader or a writer of std with a count of faults.
use Rattle.std.specs.Prelude.{ℕ}

-- the reader or writer, and how many of its calls failed
pub record Counted (X : Type 0) : Type 0 where
  pub inner : X
  pub faults : ℕ
