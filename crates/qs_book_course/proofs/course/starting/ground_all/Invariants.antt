use Rattle.std.proofs.Common.{◌≡◌, take}
use Rattle.std.specs.List.{fold}
use Rattle.qs_book_conformance.specs.Begun.{grounded}
use Rattle.qs_book_course.proofs.course.starting.ground_all.Given as goal

abbrev pub invariant-loop-line : goal.invariant-loop-line
invariant-loop-line l = l.nodes.items ≡ fold grounded l.initial.nodes.items (take l.line-index l.faults)
