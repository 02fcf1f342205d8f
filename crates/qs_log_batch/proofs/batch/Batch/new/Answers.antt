use Rattle.std.specs.Prelude.{vec_capacity}
use Rattle.qs_log_batch.proofs.GatheringLemmas.{gathered_none}
use Rattle.qs_log_batch.proofs.batch.Batch.new.Goals as goal

pub invariant_of-result : goal.invariant_of-result
invariant_of-result c = (gathered_none c.new.result.items (vec_capacity c.new.result)).0

pub returns : goal.returns
returns c = (gathered_none c.new.result.items (vec_capacity c.new.result)).1
