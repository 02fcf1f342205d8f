use Rattle.std.proofs.Common.{◌≡◌, ◌<◌, ◌≤◌, ◌+◌, ◌++◌, List, ℕ, length}
use Rattle.qs_book_script.specs.Lines.{lines_of}
use Rattle.qs_text_history.specs.Journal.{span}
use Rattle.qs_text_history.specs.Inner.Reader.{reading_of, Knows}
use Rattle.qs_text_history.specs.Reading.{at_start, Reads}
use Rattle.qs_text_history.specs.Spelled.{Each, IsEntry}
use Rattle.qs_text_history.proofs.reading.read_on.Given as goal

abbrev pub invariant-loop-rest : goal.invariant-loop-rest
invariant-loop-rest l = record {
  lines : List (List ℕ);
  whole : lines ++ lines_of l.rest ≡ lines_of l.text;
  reads : Reads at_start lines (reading_of l.reader);
  knows : Knows l.reader.begun l.reader.entries;
  each : Each IsEntry l.reader.entries;
  counted : l.count ≡ length lines;
  entries : length l.reader.entries ≤ l.count;
  room : l.count + length l.rest ≤ length l.text;
  used : length l.text ≤ 67108864 + length l.rest;
  spans : 0 < length l.rest → span lines + length l.rest ≡ length l.text;
}

abbrev pub decreases-loop-rest : goal.decreases-loop-rest
decreases-loop-rest l = length l.rest
