use Rattle.std.proofs.Common.{◌≡◌, drop}
use Rattle.qs_record.specs.Grammar.{is_rising}
use Rattle.qs_node_spelled.proofs.parts.are_nodes.Given as goal

abbrev pub invariant-loop-node : goal.invariant-loop-node
invariant-loop-node l = is_rising 0 l.nodes ≡ is_rising l.least (drop l.node-index l.nodes)
