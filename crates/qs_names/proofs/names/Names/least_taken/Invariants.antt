use Rattle.std.proofs.Common.{◌≡◌, ◌≤◌, length, drop}
use Rattle.std.specs.Option.{option_copied}
use Rattle.qs_ops.specs.Table.{share_of, least_taken_in}
use Rattle.qs_names.proofs.names.Names.least_taken.Given as goal

-- the least of the changes from `left` on
abbrev pub invariant-loop-left : goal.invariant-loop-left
invariant-loop-left l = record {
  changes : l.changes ≡ (share_of l.self.shelf l.tid).changes;
  bound : l.left ≤ length l.changes;
  least : option_copied l.least ≡ least_taken_in l.self.shelf l.tid (drop l.left l.changes);
}

abbrev pub decreases-loop-left : goal.decreases-loop-left
decreases-loop-left l = l.left
