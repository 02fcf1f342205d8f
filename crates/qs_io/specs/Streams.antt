-- What a run of calls on a source or a sink took or gave, where it is told.
use Rattle.std.specs.Prelude.{◌≡◌, ℕ, ◌+◌, ◌≤◌, ◌⊎◌, List, ◌++◌, length, Option}
use Rattle.std.specs.Io.KnownBytes.{Consumes, Appends, IsAtEnd}

-- at most this many bytes were taken
pub record TakesAtMost (count : ℕ) (old new : Option (List ℕ)) : Type 0 where
  pub taken : List ℕ
  pub consumed : Consumes old new taken
  pub few : length taken ≤ count

-- the source is at its end, or the text is one byte longer than the limit
abbrev pub IsWholeOrLonger : Option (List ℕ) → List ℕ → ℕ → Type 0
IsWholeOrLonger left text limit = IsAtEnd left ⊎ (length text ≡ limit + 1)

-- a front of the text was given, and nothing else
pub record GivesPart (old new : Option (List ℕ)) (text : List ℕ) : Type 0 where
  pub part : List ℕ
  pub rest : List ℕ
  pub whole : part ++ rest ≡ text
  pub gave : Appends old new part
