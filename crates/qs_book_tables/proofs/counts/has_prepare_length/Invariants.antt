use Rattle.std.proofs.Common.{◌≡◌, ◌+◌, take}
use Rattle.std.specs.Prelude.{sum_by}
use Rattle.qs_ops.specs.Spelled.{op_length}
use Rattle.qs_book_tables.proofs.counts.has_prepare_length.Given as goal

abbrev pub invariant-loop-op : goal.invariant-loop-op
invariant-loop-op l = l.left + (23 + sum_by op_length (take l.op-index l.changes)) ≡ l.length
