use Rattle.std.proofs.Common.{◌≡◌, ◌++◌, ◌-◌, drop}
use Rattle.qs_text.specs.Output.{nodes_text}
use Rattle.qs_text.proofs.output.put_nodes.Given as goal

abbrev pub invariant-loop-node : goal.invariant-loop-node
invariant-loop-node l = l.out ++ nodes_text l.number (drop l.number l.book.nodes) ≡ l.initial.out ++ nodes_text 0 l.book.nodes

abbrev pub decreases-loop-node : goal.decreases-loop-node
decreases-loop-node l = 255 - l.number
