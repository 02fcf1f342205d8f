use Rattle.qs_log_batch.proofs.AreaLemmas.{broken_not_counted, broken_once}
use Rattle.qs_log_batch.proofs.laws.broken_once.Goals as goal

pub returns : goal.returns
returns c = record { counted = broken_not_counted; place = broken_once }
