use Rattle.std.proofs.Common.{◌≡◌, take}
use Rattle.std.specs.List.{fold}
use Rattle.qs_book_machine.specs.Book.{hear}
use Rattle.qs_book.proofs.book.acts.hear_all.Given as goal

abbrev pub invariant-loop-asking : goal.invariant-loop-asking
invariant-loop-asking l = l.book ≡ fold hear l.initial.book (take l.asking-index l.waiting)
