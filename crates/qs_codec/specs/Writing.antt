-- What a writer of fields does.
use Rattle.std.specs.Prelude.{◌≡◌, List, ℕ, ◌++◌}
use Rattle.qs_codec.specs.Grammar.{Field, Spells}

-- bytes that spell the field were added at the end, and nothing else changed
pub record Appends (field : Field) (old new : List ℕ) : Type 0 where
  pub part : List ℕ
  pub spelled : Spells field part
  pub added : new ≡ old ++ part
