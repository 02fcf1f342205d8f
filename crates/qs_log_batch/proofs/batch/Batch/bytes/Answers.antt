use Rattle.std.proofs.Common.{ap, ◌∙◌}
use Rattle.std.specs.Prelude.{sum_by, vec_capacity}
use Rattle.qs_record.specs.Grammar.{record_length}
use Rattle.qs_log_batch.proofs.GatheringLemmas.{gathered_size}
use Rattle.qs_log_batch.proofs.batch.Batch.bytes.Goals as goal

pub returns : goal.returns
returns c = gathered_size c.self.inside.count c.self.inside.size c.self.inside.bytes.items (vec_capacity c.self.inside.bytes) c.self.invariant ∙ ap (sum_by record_length) c.self.view_is
