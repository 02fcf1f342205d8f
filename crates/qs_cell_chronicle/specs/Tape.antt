-- A list with room for more.
use Rattle.std.specs.Prelude.{ℕ, List}

pub record TapeValue (T : Type 0) : Type 0 where
  pub items : List T
  pub spare : ℕ  -- for so many more there is room
