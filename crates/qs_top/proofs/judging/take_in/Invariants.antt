use Rattle.std.proofs.Common.{◌≡◌, ◌+◌, length, fold}
use Rattle.qs_book_conformance.specs.Conforming.{first_misfit_from}
use Rattle.qs_book_conformance.specs.Effects.{course_after}
use Rattle.qs_top.proofs.judging.take_in.Given as goal

abbrev pub invariant-loop-rest : goal.invariant-loop-rest
invariant-loop-rest l = record {
  misfit : first_misfit_from l.place l.checker l.rest ≡ first_misfit_from 0 l.initial.checker l.journal;
  course : fold course_after l.checker l.rest ≡ fold course_after l.initial.checker l.journal;
  place : l.place + length l.rest ≡ length l.journal;
}

abbrev pub decreases-loop-rest : goal.decreases-loop-rest
decreases-loop-rest l = length l.rest
