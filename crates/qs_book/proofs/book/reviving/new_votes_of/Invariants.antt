use Rattle.std.proofs.Common.{◌≡◌, take}
use Rattle.std.specs.List.{flat_map}
use Rattle.qs_book_machine.specs.Restart.{new_vote}
use Rattle.qs_book.proofs.book.reviving.new_votes_of.Given as goal

abbrev pub invariant-loop-found : goal.invariant-loop-found
invariant-loop-found l = l.votes.items ≡ flat_map (new_vote l.here.0 l.book l.node) (take l.found-index l.pend)
