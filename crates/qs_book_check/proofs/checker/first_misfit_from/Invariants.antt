use Rattle.std.proofs.Common.{◌≡◌, ◌+◌, length}
use Rattle.qs_book_conformance.specs.Conforming.{first_misfit_from}
use Rattle.qs_book_check.proofs.checker.first_misfit_from.Given as goal

abbrev pub invariant-loop-rest : goal.invariant-loop-rest
invariant-loop-rest l = record {
  same : first_misfit_from l.place l.checker l.rest ≡ first_misfit_from 0 l.initial.checker l.entries;
  place : l.place + length l.rest ≡ length l.entries;
}

abbrev pub decreases-loop-rest : goal.decreases-loop-rest
decreases-loop-rest l = length l.rest
