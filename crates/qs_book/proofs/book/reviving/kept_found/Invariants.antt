use Rattle.std.proofs.Common.{◌≡◌, take}
use Rattle.std.specs.List.{flat_map}
use Rattle.qs_book_machine.specs.Restart.{keep_found}
use Rattle.qs_book.proofs.book.reviving.kept_found.Given as goal

abbrev pub invariant-loop-found : goal.invariant-loop-found
invariant-loop-found l = l.kept ≡ flat_map (keep_found l.here.0 l.book l.server.0 l.done) (take l.found-index l.pend)
