use Rattle.std.proofs.Common.{◌≡◌}
use Rattle.std.specs.Prelude.{replicate}
use Rattle.qs_book_machine.specs.Opening.{no_owner}
use Rattle.qs_book.proofs.opening.no_owners.Given as goal

abbrev pub invariant-loop-turn : goal.invariant-loop-turn
invariant-loop-turn l = l.owners.items ≡ replicate l._turn no_owner
