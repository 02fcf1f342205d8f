-- An index of a list: under each key a place at which the first item that has it is found.
use Rattle.std.specs.Prelude.{◌≡◌, ℕ, Bool, List, Option, Some, None, slice_get, if◌then◌else◌}
use Rattle.std.specs.List.{find}
use Rattle.std.specs.Map.{lookup}
use Rattle.std.specs.BTreeMap.{is_at}
use Rattle.std.specs.declared.cmp.Ordering.{Ordering}

-- the item, where it passes
abbrev pub passing : {T : Type 0} → (T → Bool) → Option T → Option T
passing test None = None
passing test (Some item) = if test item then Some item else None

-- the item at a place, where it passes
abbrev pub found_at : {T : Type 0} → (T → Bool) → List T → Option ℕ → Option T
found_at test items None = None
found_at test items (Some place) = passing test (slice_get items place)

-- a search through the index finds what one from the front finds; a key that no item has may have any place
abbrev pub IsIndexOf : {K T : Type 0} → (K → K → Ordering) → (K → T → Bool) → List (K × ℕ) → List T → Type 0
IsIndexOf {K} cmp has places items = (key : K) → found_at (has key) items (lookup (is_at (cmp key)) places) ≡ find (has key) items
