use Rattle.qs_log_batch.proofs.BatchLemmas.{batch_long, batch_front}
use Rattle.qs_log_batch.proofs.laws.spelled_once.Goals as goal

pub returns : goal.returns
returns c = record { long = batch_long; front = batch_front }
