use Rattle.std.proofs.Common.{◌≡◌, ◌≤◌, ◌+◌, length}
use Rattle.qs_text_script.specs.Indexes.{IsIndexed}
use Rattle.qs_book_script.specs.Lines.{lines_of}
use Rattle.qs_text_script.specs.Rules.{empty_script}
use Rattle.qs_text_script.specs.Script.{read_from}
use Rattle.qs_text_script.proofs.reading.gather.Given as goal

abbrev pub invariant-loop-rest : goal.invariant-loop-rest
invariant-loop-rest l = record {
  indexed : IsIndexed l.gathered;
  left : read_from l.nodes l.gathered.script (lines_of l.rest) ≡ read_from l.nodes empty_script (lines_of l.text);
  room : l.gathered.script.count + length l.rest ≤ length l.text;
}

abbrev pub decreases-loop-rest : goal.decreases-loop-rest
decreases-loop-rest l = length l.rest
