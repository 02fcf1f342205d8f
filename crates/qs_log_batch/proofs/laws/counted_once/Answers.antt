use Rattle.qs_log_batch.proofs.AreaLemmas.{counts_one, counted_one}
use Rattle.qs_log_batch.proofs.laws.counted_once.Goals as goal

pub returns : goal.returns
returns c = record { batches = counts_one; records = counted_one }
