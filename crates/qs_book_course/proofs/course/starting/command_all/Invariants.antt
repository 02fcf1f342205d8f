use Rattle.std.proofs.Common.{◌≡◌, take}
use Rattle.std.specs.List.{fold}
use Rattle.qs_book_conformance.specs.Begun.{commanded}
use Rattle.qs_book_course.proofs.course.starting.command_all.Given as goal

abbrev pub invariant-loop-line : goal.invariant-loop-line
invariant-loop-line l = l.clients.items ≡ fold commanded l.initial.clients.items (take l.line-index l.lines)
