use Rattle.std.proofs.Common.{◌≡◌, take}
use Rattle.std.specs.List.{fold}
use Rattle.qs_book_conformance.specs.Begun.{seated}
use Rattle.qs_book_course.proofs.course.starting.sit_all.Given as goal

abbrev pub invariant-loop-seat : goal.invariant-loop-seat
invariant-loop-seat l = l.clients.items ≡ fold seated l.initial.clients.items (take l.seat-index l.seats)
