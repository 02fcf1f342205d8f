-- What the reader of a history keeps.
use Rattle.std.specs.Prelude.{ℕ, ◌≡◌, Bool, true, List, Option, Some, None, if◌then◌else◌}
use Rattle.qs_base.specs.declared.identifiers.Tid.{Tid}
use Rattle.qs_book_journal.specs.declared.entry.Entry.{Entry}
use Rattle.qs_text_history.specs.Begun.{first_begun, is_begun}
use Rattle.qs_text_history.specs.Inner.Begun.{BegunValue, label_in, tid_in}
use Rattle.qs_text_history.specs.Reading.{Reading, may_follow, read_after}
use Rattle.qs_text_history.specs.Inner.Said.{said_of}
use Rattle.qs_text_history.specs.Inner.Words.{words_of}
use Rattle.qs_text_history.specs.declared.reader.HistoryReader.{HistoryReader}
use Rattle.qs_text_history.specs.declared.said.Said.{Said}

abbrev pub reading_of : HistoryReader → Reading
reading_of reader = record { nodes = reader.nodes; done = reader.done; current = reader.current; entries = reader.entries }

-- the maps tell what the entries began
pub record Knows (begun : BegunValue) (entries : List Entry) : Type 0 where
  pub labels : (label : List ℕ) → label_in begun label ≡ first_begun label entries
  pub tids : (tid : Tid) → tid_in begun tid ≡ is_begun tid entries

-- what is read with what a line says
abbrev pub taken : Reading → Option Said → Option Reading
taken reading None = None
taken reading (Some said) = if may_follow reading said then Some (read_after reading said) else None

-- what is read with one more line, where it is told whom a name stands for
abbrev pub read_line : (List ℕ → Option Tid) → Reading → List ℕ → Option Reading
read_line holder reading line = taken reading (said_of holder (words_of line))

-- what was read, where the line was taken
abbrev pub after_line : Bool → Reading → Option Reading
after_line true reading = Some reading
after_line _ reading = None
