use Rattle.std.proofs.Common.{◌≡◌, drop}
use Rattle.std.specs.Prelude.{◌&&◌}
use Rattle.qs_book_machine.specs.Restart.{votes_once}
use Rattle.qs_book.proofs.Once.{all_new}
use Rattle.qs_book.proofs.book.restarting.votes_once.Given as goal

abbrev pub invariant-loop-found : goal.invariant-loop-found
invariant-loop-found l = (all_new l.seen.keys (drop l.found-index l.pend) && votes_once (drop l.found-index l.pend)) ≡ votes_once l.pend
