-- A history that was read.
use Rattle.std.specs.Prelude.{ℕ, ◌≡◌, ◌+◌, true, List, length}
use Rattle.qs_book_script.specs.Lines.{lines_of}
use Rattle.qs_text_history.specs.Reading.{Reading, at_start, opened_of, is_open, Reads}
use Rattle.qs_text_history.specs.declared.journal.Journal.{Journal}

-- ---- a history that was read

-- the lines of the text lead to this history
pub record IsRead (text : List ℕ) (journal : Journal) : Type 0 where
  pub reading : Reading
  pub reads : Reads at_start (lines_of text) reading
  pub is_whole : is_open reading ≡ true
  pub opened : journal.opened ≡ opened_of reading
  pub entries : journal.entries ≡ reading.entries
  pub first : journal.first + length reading.entries ≡ length (lines_of text) + 1
