use Rattle.qs_log_batch.proofs.ReadLemmas.{taken_short}
use Rattle.qs_test_storage.proofs.batch.record_of.Goals as goal

pub returns-clause-short : goal.returns-clause-short
returns-clause-short c = taken_short c.in_ok-rec.rec c.args.bytes.now c.decode.new.reader (rw c.new-reader.ensures at c.in_ok-rec.ensures.value)
