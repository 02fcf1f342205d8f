use Rattle.std.proofs.Common.{◌≡◌, take, fold}
use Rattle.qs_engage.specs.Nodes.{with_listed}
use Rattle.qs_engage.proofs.nodes.Nodes.list_each.Given as goal

abbrev pub invariant-loop-node : goal.invariant-loop-node
invariant-loop-node l = l.nodes ≡ fold (with_listed l.self) l.initial.nodes (take l.node-index l.all)
