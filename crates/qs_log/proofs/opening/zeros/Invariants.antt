-- The bytes so far are no more than are asked for.
use Rattle.std.proofs.Common.{◌≤◌}
use Rattle.std.specs.Prelude.{◌-◌, length}
use Rattle.qs_log.proofs.opening.zeros.Given as goal

abbrev pub invariant-loop-bytes : goal.invariant-loop-bytes
invariant-loop-bytes l = length l.bytes.items ≤ l.count

abbrev pub decreases-loop-bytes : goal.decreases-loop-bytes
decreases-loop-bytes l = l.count - length l.bytes.items
