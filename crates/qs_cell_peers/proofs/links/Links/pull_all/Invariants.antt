use Rattle.qs_cell_peers.proofs.Pulling.{PulledBelow}
use Rattle.qs_cell_peers.proofs.links.Links.pull_all.Given as goal

abbrev pub invariant-loop-from : goal.invariant-loop-from
invariant-loop-from l = PulledBelow l.from l.initial.self l.self
