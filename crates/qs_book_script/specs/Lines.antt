-- The lines of a text, their words, and how words are spelled.
use Rattle.std.specs.Prelude.{ℕ, Bool, true, false, not, ◌&&◌, ◌==◌, List, [], ◌∷◌, length, nat_lt, nat_le, if◌then◌else◌}
use Rattle.std.specs.List.{slice_split, filter, list_all}
use Rattle.std.specs.Char.{is_ascii_alphanumeric}

-- ---- lines and words

-- what stands after the last line feed is a line only where it has a byte
abbrev pub without_empty_end : List (List ℕ) → List (List ℕ)
without_empty_end [] = []
without_empty_end (line ∷ []) = if length line == 0 then [] else line ∷ []
without_empty_end (line ∷ next ∷ more) = line ∷ without_empty_end (next ∷ more)

-- the lines of a text stand between its line feeds
abbrev pub lines_of : List ℕ → List (List ℕ)
lines_of text = without_empty_end (slice_split (λ byte. byte == 10) text)

-- the words of a line stand between its blanks
abbrev pub words_of : List ℕ → List (List ℕ)
words_of line = filter (λ word. not (length word == 0)) (slice_split (λ byte. byte == 32) line)

-- a line without words is skipped, and one whose first word begins with #
abbrev pub is_skipped : List (List ℕ) → Bool
is_skipped [] = true
is_skipped ([] ∷ words) = false
is_skipped ((byte ∷ bytes) ∷ words) = byte == 35

-- ---- spellings

abbrev pub is_printable : ℕ → Bool
is_printable byte = nat_le 32 byte && nat_le byte 126

-- 1 to 16 letters or digits
abbrev pub is_label : List ℕ → Bool
is_label word = nat_lt 0 (length word) && (nat_le (length word) 16 && list_all is_ascii_alphanumeric word)
