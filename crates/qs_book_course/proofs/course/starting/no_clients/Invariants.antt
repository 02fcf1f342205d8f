use Rattle.std.proofs.Common.{◌≡◌}
use Rattle.std.specs.Prelude.{replicate}
use Rattle.qs_book_conformance.specs.Begun.{no_client}
use Rattle.qs_book_course.proofs.course.starting.no_clients.Given as goal

abbrev pub invariant-loop-turn : goal.invariant-loop-turn
invariant-loop-turn l = l.clients.items ≡ replicate l._turn no_client
