use Rattle.std.proofs.Common.{◌≡◌, take}
use Rattle.qs_engage.specs.Nodes.{joined}
use Rattle.qs_engage.proofs.nodes.Nodes.join.Given as goal

abbrev pub invariant-loop-node : goal.invariant-loop-node
invariant-loop-node l = l.self ≡ joined l.initial.self (take l.node-index l.node-items)
