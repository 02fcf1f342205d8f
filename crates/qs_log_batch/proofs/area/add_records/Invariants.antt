use Rattle.qs_log_batch.proofs.ReadLemmas.{IsUnderWay}
use Rattle.qs_log_batch.proofs.area.add_records.Given as goal

abbrev pub invariant-loop-turn : goal.invariant-loop-turn
invariant-loop-turn l = IsUnderWay l._turn l.body l.initial.records l.reader l.records
