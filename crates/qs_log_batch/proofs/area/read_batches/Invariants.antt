use Rattle.std.proofs.Common.{length}
use Rattle.qs_log_batch.proofs.AreaLemmas.{IsReadTo}
use Rattle.qs_log_batch.proofs.area.read_batches.Given as goal

abbrev pub invariant-loop-alloc : goal.invariant-loop-alloc
invariant-loop-alloc l = IsReadTo l.area l.rest l.records

abbrev pub decreases-loop-alloc : goal.decreases-loop-alloc
decreases-loop-alloc l = length l.rest
