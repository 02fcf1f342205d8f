use Rattle.std.proofs.Common.{◌≡◌, length}
use Rattle.qs_book_machine.specs.Opening.{name_from}
use Rattle.qs_book.proofs.book.opening.name_from_first.Given as goal

abbrev pub invariant-loop-rest : goal.invariant-loop-rest
invariant-loop-rest l = name_from l.here l.rest l.book ≡ name_from 0 l.opened l.initial.book

abbrev pub decreases-loop-rest : goal.decreases-loop-rest
decreases-loop-rest l = length l.rest
