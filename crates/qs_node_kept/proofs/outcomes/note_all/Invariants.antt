use Rattle.std.proofs.Common.{take}
use Rattle.qs_node_kept.specs.Keeping.{IsEnded}
use Rattle.qs_node_kept.proofs.outcomes.note_all.Given as goal

abbrev pub invariant-loop-place : goal.invariant-loop-place
invariant-loop-place l = IsEnded l.places.entries (take l.place l.outcomes)
