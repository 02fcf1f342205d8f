use Rattle.std.proofs.Common.{take, map}
use Rattle.qs_record.specs.Grammar.{SpellsAll, node_field}
use Rattle.qs_record.specs.Writing.{Adds}
use Rattle.qs_record.proofs.writing.add_each.Given as goal

abbrev pub invariant-loop-node : goal.invariant-loop-node
invariant-loop-node l = Adds (SpellsAll (map node_field (take l.node-index l.nodes))) l.fn.out l.out
