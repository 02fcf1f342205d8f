use Rattle.std.proofs.Common.{◌≡◌, take}
use Rattle.std.specs.List.{fold}
use Rattle.qs_book_machine.specs.Opening.{name_pending}
use Rattle.qs_book.proofs.book.opening.name_votes.Given as goal

abbrev pub invariant-loop-vote : goal.invariant-loop-vote
invariant-loop-vote l = l.book ≡ fold (name_pending l.here.0 l.inc) l.initial.book (take l.vote-index l.pending)
