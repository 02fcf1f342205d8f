use Rattle.std.specs.Prelude.{vec_capacity}
use Rattle.qs_log_batch.proofs.GatheringLemmas.{gathered_none}
use Rattle.qs_log_batch.proofs.batch.Batch.clear.Goals as goal

pub invariant_of-self : goal.invariant_of-self
invariant_of-self c = (gathered_none c.self.inside.bytes.items (vec_capacity c.self.inside.bytes)).0

pub returns : goal.returns
returns c = (gathered_none c.self.inside.bytes.items (vec_capacity c.self.inside.bytes)).1
