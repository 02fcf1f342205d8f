use Rattle.std.proofs.Common.{◌≡◌, take, map}
use Rattle.qs_book_machine.specs.Opening.{opened_node}
use Rattle.qs_book.proofs.opening.opened_nodes.Given as goal

abbrev pub invariant-loop-one : goal.invariant-loop-one
invariant-loop-one l = l.nodes.items ≡ map opened_node (take l.one-index l.opened)
