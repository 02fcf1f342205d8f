-- The numbers that words spell.
use Rattle.std.specs.Prelude.{ℕ, ◌+◌, ◌-◌, ◌*◌, ◌^◌, Bool, false, not, ◌&&◌, ◌==◌, List, [], ◌∷◌, Option, Some, None, nat_lt, if◌then◌else◌}
use Rattle.std.specs.List.{list_all}
use Rattle.std.specs.Char.{is_ascii_digit}

-- digits alone, and no zero in front of others
abbrev pub is_decimal : List ℕ → Bool
is_decimal [] = false
is_decimal (digit ∷ []) = is_ascii_digit digit
is_decimal (first ∷ next ∷ more) = not (first == 48) && list_all is_ascii_digit (first ∷ next ∷ more)

-- the number that digits stand for, behind those of a number
abbrev pub read_on : ℕ → List ℕ → ℕ
read_on number [] = number
read_on number (digit ∷ digits) = read_on (10 * number + (digit - 48)) digits

-- the number of 64 bits that a word is
abbrev pub number_of : List ℕ → Option ℕ
number_of word = if is_decimal word && nat_lt (read_on 0 word) (2 ^ 64) then Some (read_on 0 word) else None

-- a number that is below a limit
abbrev pub below : ℕ → Option ℕ → Option ℕ
below limit None = None
below limit (Some number) = if nat_lt number limit then Some number else None
