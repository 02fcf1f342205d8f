use Rattle.std.proofs.Common.{◌≡◌, take}
use Rattle.std.specs.List.{fold}
use Rattle.qs_book_machine.specs.Opening.{name_transaction}
use Rattle.qs_book.proofs.book.opening.name_commits.Given as goal

abbrev pub invariant-loop-tid : goal.invariant-loop-tid
invariant-loop-tid l = l.book ≡ fold name_transaction l.initial.book (take l.tid-index l.committed)
