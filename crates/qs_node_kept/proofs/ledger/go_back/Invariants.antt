use Rattle.std.proofs.Common.{◌≡◌, length}
use Rattle.qs_node_kept.specs.Ledger.{undone, IsBelow}
use Rattle.qs_node_kept.proofs.ledger.go_back.Given as goal

abbrev pub invariant-loop-change : goal.invariant-loop-change
invariant-loop-change g l = record {
  same : undone l.undo.items l.items.items ≡ undone l.initial.undo.items l.initial.items.items;
  below : IsBelow (length l.items.items) l.undo.items;
}

abbrev pub decreases-loop-change : goal.decreases-loop-change
decreases-loop-change g l = length l.undo.items
