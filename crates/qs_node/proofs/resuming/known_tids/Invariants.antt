use Rattle.std.proofs.Common.{◌≡◌, map}
use Rattle.std.specs.Map.Iter.{deref_pair}
use Rattle.qs_base.specs.declared.identifiers.Tid.{Tid}
use Rattle.qs_tm.specs.declared.participant.Participant.{Participant}
use Rattle.qs_node.proofs.resuming.known_tids.Given as goal

abbrev pub invariant-loop-entry : goal.invariant-loop-entry
invariant-loop-entry g l = l.tids ≡ map (λ (entry : Tid × Participant). entry.0) (map deref_pair l.yielded)
