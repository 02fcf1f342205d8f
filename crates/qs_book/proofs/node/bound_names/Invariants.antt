use Rattle.std.proofs.Common.{◌≡◌, take}
use Rattle.qs_book_machine.specs.Nodes.{bound_names}
use Rattle.qs_book.proofs.node.bound_names.Given as goal

abbrev pub invariant-loop-op : goal.invariant-loop-op
invariant-loop-op l = l.names ≡ bound_names (take l.op-index l.ops)
