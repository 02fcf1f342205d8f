use Rattle.std.proofs.Common.{◌≡◌, take}
use Rattle.std.specs.List.{fold}
use Rattle.qs_book_machine.specs.Restart.{vote_found}
use Rattle.qs_book.proofs.book.reviving.vote_all.Given as goal

abbrev pub invariant-loop-found : goal.invariant-loop-found
invariant-loop-found l = l.book ≡ fold (vote_found l.here.0 l.inc l.done) l.initial.book (take l.found-index l.pend)
