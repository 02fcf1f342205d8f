use Rattle.std.proofs.Common.{◌≡◌, take}
use Rattle.std.specs.List.{fold}
use Rattle.qs_book_conformance.specs.Begun.{marked}
use Rattle.qs_book_course.proofs.course.starting.mark_all.Given as goal

abbrev pub invariant-loop-line : goal.invariant-loop-line
invariant-loop-line l = l.marks.entries ≡ fold marked l.initial.marks.entries (take l.line-index l.faults)
