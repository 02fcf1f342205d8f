-- A list as it is, and as it was at the last accept.
use Rattle.std.specs.Prelude.{ℕ, ◌<◌, List, [], ◌∷◌, take, slice_set, ⊤}

pub record LedgerValue (T : Type 0) : Type 0 where
  pub now : List T
  pub saved : List T

-- the places have what they had again, the last change first
abbrev pub undone : {T : Type 0} → List (ℕ × T) → List T → List T
undone [] items = items
undone (e ∷ es) items = slice_set (undone es items) e.0 e.1

-- the items up to a mark, with the changes undone
abbrev pub restored : {T : Type 0} → ℕ → List (ℕ × T) → List T → List T
restored mark undo items = take mark (undone undo items)

-- each change is at one of the first n places
abbrev pub IsBelow : {T : Type 0} → ℕ → List (ℕ × T) → Type 0
IsBelow n [] = ⊤
IsBelow n (e ∷ es) = (e.0 < n) × IsBelow n es
