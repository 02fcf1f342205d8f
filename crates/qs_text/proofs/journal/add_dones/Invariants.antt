use Rattle.std.proofs.Common.{◌≡◌, ◌++◌, take, map}
use Rattle.qs_text_script.specs.Answers.{list_text}
use Rattle.qs_text_script.specs.Journal.{done_text}
use Rattle.qs_text.proofs.journal.add_dones.Given as goal

abbrev pub invariant-loop-tid : goal.invariant-loop-tid
invariant-loop-tid l = l.out ≡ l.initial.out ++ list_text (map done_text (take l.tid-index l.done))
