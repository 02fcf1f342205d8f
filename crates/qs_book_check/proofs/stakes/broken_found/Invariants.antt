use Rattle.std.proofs.Common.{◌≡◌, length}
use Rattle.qs_book_conformance.specs.Files.{broken_found}
use Rattle.qs_book_check.proofs.stakes.broken_found.Given as goal

abbrev pub invariant-loop-rest : goal.invariant-loop-rest
invariant-loop-rest l = broken_found l.course l.node l.here.0 l.rest ≡ broken_found l.course l.node l.here.0 l.pend

abbrev pub decreases-loop-rest : goal.decreases-loop-rest
decreases-loop-rest l = length l.rest
