use Rattle.std.proofs.Common.{◌≡◌, take}
use Rattle.std.specs.List.{flat_map}
use Rattle.qs_book_machine.specs.Opening.{keep_pending}
use Rattle.qs_book.proofs.opening.keeps_of.Given as goal

abbrev pub invariant-loop-vote : goal.invariant-loop-vote
invariant-loop-vote l = l.keeps ≡ flat_map (keep_pending l.server.0) (take l.vote-index l.pending)
