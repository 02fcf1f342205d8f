use Rattle.std.proofs.Common.{◌≡◌, ◌++◌, take}
use Rattle.qs_text_script.specs.Journal.{journal_text}
use Rattle.qs_text.specs.Output.{label_of}
use Rattle.qs_text.proofs.journal.put_journal.Given as goal

abbrev pub invariant-loop-entry : goal.invariant-loop-entry
invariant-loop-entry l = l.out ≡ l.initial.out ++ journal_text (label_of l.book) (take l.entry-index l.history)
