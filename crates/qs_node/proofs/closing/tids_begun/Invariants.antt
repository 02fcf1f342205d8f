use Rattle.std.proofs.Common.{◌≡◌, take, map}
use Rattle.qs_node_kept.specs.declared.kept.KeptLabel.{KeptLabel}
use Rattle.qs_node.proofs.closing.tids_begun.Given as goal

abbrev pub invariant-loop-begun : goal.invariant-loop-begun
invariant-loop-begun l = l.tids ≡ map (λ (begun : KeptLabel). begun.tid) (take l.begun-index l.labels)
