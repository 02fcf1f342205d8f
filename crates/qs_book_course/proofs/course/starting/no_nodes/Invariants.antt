use Rattle.std.proofs.Common.{◌≡◌}
use Rattle.std.specs.Prelude.{replicate}
use Rattle.qs_book_conformance.specs.Begun.{no_node}
use Rattle.qs_book_course.proofs.course.starting.no_nodes.Given as goal

abbrev pub invariant-loop-turn : goal.invariant-loop-turn
invariant-loop-turn l = l.nodes.items ≡ replicate l._turn no_node
