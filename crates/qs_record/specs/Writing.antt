-- What a writer of composed values does.
use Rattle.std.specs.Prelude.{◌≡◌, ℕ, List, ◌++◌}

-- bytes that spell the value were added at the end, and nothing else changed
pub record Adds (P : List ℕ → Type 0) (old new : List ℕ) : Type 0 where
  pub part : List ℕ
  pub spelled : P part
  pub added : new ≡ old ++ part

-- nothing of the list changed, and something may stand behind it
pub record Grows (old new : List ℕ) : Type 0 where
  pub part : List ℕ
  pub added : new ≡ old ++ part
