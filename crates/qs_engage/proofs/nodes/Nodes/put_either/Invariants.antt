use Rattle.std.proofs.Common.{◌≡◌, ◌||◌, take, fold}
use Rattle.qs_engage.specs.Nodes.{put_where, has_node}
use Rattle.qs_engage.proofs.nodes.Nodes.put_either.Given as goal

abbrev pub invariant-loop-node : goal.invariant-loop-node
invariant-loop-node l = l.self ≡ fold (put_where (λ node. has_node l.one node || has_node l.more node)) l.initial.self (take l.node-index l.nodes)
