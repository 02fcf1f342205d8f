use Rattle.std.proofs.Common.{◌≡◌, ◌++◌, take}
use Rattle.qs_text_script.specs.Answers.{list_text}
use Rattle.qs_text.proofs.answers.put_list.Given as goal

abbrev pub invariant-loop-text : goal.invariant-loop-text
invariant-loop-text l = l.out ≡ l.initial.out ++ list_text (take l.text-index l.list)
