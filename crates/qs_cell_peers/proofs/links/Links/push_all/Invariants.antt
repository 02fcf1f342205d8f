use Rattle.qs_cell_peers.proofs.Pulling.{PushedBelow}
use Rattle.qs_cell_peers.proofs.links.Links.push_all.Given as goal

abbrev pub invariant-loop-to : goal.invariant-loop-to
invariant-loop-to l = PushedBelow l.to l.initial.self l.self
