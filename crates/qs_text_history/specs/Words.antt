-- What a word of a line is.
use Rattle.std.specs.Prelude.{ℕ, ◌&&◌, Bool, List, length, nat_lt, nat_le}
use Rattle.std.specs.List.{list_all}

-- ---- words

-- a byte that may stand in a word: any character but the blank, up to the tilde
abbrev pub is_letter : ℕ → Bool
is_letter byte = nat_le 33 byte && nat_le byte 126

-- a word has a byte at least
abbrev pub is_word : List ℕ → Bool
is_word word = nat_lt 0 (length word) && list_all is_letter word
