use Rattle.std.proofs.Common.{◌≡◌, ◌++◌, take, map}
use Rattle.qs_text_script.specs.Answers.{list_text}
use Rattle.qs_text_script.specs.Journal.{pend_text}
use Rattle.qs_text.proofs.journal.add_pends.Given as goal

abbrev pub invariant-loop-found : goal.invariant-loop-found
invariant-loop-found l = l.out ≡ l.initial.out ++ list_text (map pend_text (take l.found-index l.pend))
