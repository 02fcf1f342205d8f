-- Texts in pieces.
use Rattle.std.specs.Prelude.{◌≡◌, ℕ, ◌+◌, ◌^◌, ◌++◌, List, [], length, Option, Some, None, unwrap_or, nat_lt, if◌then◌else◌}
use Rattle.std.specs.List.{concat}
use Rattle.std.specs.Option.{option_map}

-- a text, as its pieces in order
abbrev pub Pieces : Type 0
Pieces = List (List ℕ)

-- the text itself
abbrev pub flat : Option Pieces → Option (List ℕ)
flat text = option_map concat text

-- how many pieces it has
abbrev pub piece_count : Option Pieces → ℕ
piece_count None = 0
piece_count (Some text) = length text

-- how many bytes it has
abbrev pub text_bytes : Option (List ℕ) → ℕ
text_bytes text = length (unwrap_or text [])

-- the second behind the first, where both are there
abbrev pub joined : Option (List ℕ) → Option (List ℕ) → Option (List ℕ)
joined None more = more
joined (Some text) None = Some text
joined (Some text) (Some more) = Some (text ++ more)

-- the pieces of both; a text has fewer than 2^63, and what would be too many is left out
abbrev pub both : Pieces → Pieces → Pieces
both text more = if nat_lt (length text + length more) (2 ^ 63) then text ++ more else text

abbrev pub linked : Option Pieces → Option Pieces → Option Pieces
linked None more = more
linked (Some text) None = Some text
linked (Some text) (Some more) = Some (both text more)

-- a sum of two counts that are told
abbrev pub IsSum : Option ℕ → Option ℕ → ℕ → Type 0
IsSum (Some a) (Some b) n = n ≡ a + b
IsSum first second n = ⊥

abbrev pub add_piece : List ℕ → List ℕ → List ℕ
add_piece text piece = text ++ piece
