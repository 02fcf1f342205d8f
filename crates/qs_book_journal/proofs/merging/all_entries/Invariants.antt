use Rattle.std.proofs.Common.{◌≡◌, take}
use Rattle.qs_book_journal.specs.Merge.{flat}
use Rattle.qs_book_journal.proofs.merging.all_entries.Given as goal

abbrev pub invariant-loop-journal : goal.invariant-loop-journal
invariant-loop-journal l = l.all ≡ flat (take l.journal-index l.journals)
