-- The lists of several nodes merged by stamp, where stamps are one by node, and as they stand where both are one.
use Rattle.std.specs.Prelude.{◌≡◌, ℕ, zero, suc, ◌==◌, ◌<◌, ⊤, Bool, true, ◌||◌, ◌&&◌, List, [], ◌∷◌, ◌++◌, nat_lt, nat_le}
use Rattle.std.specs.List.{filter}
use Rattle.std.specs.List.Sorted.{IsSortedBy, IsStableBy}
use Rattle.std.specs.Ordering.{is_lt, nat_cmp, ordering_then}

-- a key is a stamp and a node; this one is not below the last
abbrev pub is_after : ℕ × ℕ → ℕ → ℕ → Bool
is_after last stamp n = nat_lt last.0 stamp || ((last.0 == stamp) && nat_le last.1 n)

abbrev pub is_of_node : {X : Type 0} → (X → ℕ × ℕ) → ℕ → X → Bool
is_of_node key n x = (key x).1 == n

-- what a list has of a node
abbrev pub of_node : {X : Type 0} → (X → ℕ × ℕ) → ℕ → List X → List X
of_node key n xs = filter (is_of_node key n) xs

-- each is of a node of the run, and none is below the one before it
abbrev pub InKeyOrder : {X : Type 0} → (X → ℕ × ℕ) → ℕ → ℕ × ℕ → List X → Type 0
InKeyOrder key size last [] = ⊤
InKeyOrder key size last (x ∷ xs) = ((key x).1 < size) × (is_after last (key x).0 (key x).1 ≡ true) × InKeyOrder key size (key x) xs

-- the lists of all nodes, one after the other
abbrev pub flat_of : {X : Type 0} → ℕ → (ℕ → List X) → List X
flat_of zero lists = []
flat_of (suc n) lists = flat_of n lists ++ lists n

abbrev pub key_lt : {X : Type 0} → (X → ℕ × ℕ) → X → X → Bool
key_lt key x y = is_lt (ordering_then (nat_cmp (key x).0 (key y).0) (nat_cmp (key x).1 (key y).1))

-- the elements of all lists in the order of their keys, and those of one key as they stood
pub record IsMergedBy {X : Type 0} (key : X → ℕ × ℕ) (size : ℕ) (lists : ℕ → List X) (merged : List X) : Type 0 where
  pub in_order : IsSortedBy (key_lt key) merged
  pub as_they_stood : IsStableBy (key_lt key) (flat_of size lists) merged
