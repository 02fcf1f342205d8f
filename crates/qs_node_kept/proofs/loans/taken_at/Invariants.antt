use Rattle.std.proofs.Common.{take}
use Rattle.qs_node_kept.specs.Places.{Yields}
use Rattle.qs_node_kept.proofs.loans.taken_at.Given as goal

abbrev pub invariant-loop-place : goal.invariant-loop-place
invariant-loop-place l = Yields l.client l.tid (take l.place l.loans) l.last
