use Rattle.qs_log_batch.proofs.AreaLemmas.{counts_behind, counts_more_at}
use Rattle.qs_log_batch.proofs.laws.counted_on.Goals as goal

pub returns : goal.returns
returns c = record { behind = counts_behind; more = counts_more_at }
