use Rattle.std.proofs.Common.{◌≡◌, sum_by, take}
use Rattle.qs_ops.specs.Spelled.{op_length}
use Rattle.qs_node_work.proofs.lengths.changes_length.Given as goal

-- the sum so far is that of the changes so far
abbrev pub invariant-loop-op : goal.invariant-loop-op
invariant-loop-op l = l.bytes ≡ sum_by op_length (take l.op-index l.changes)
