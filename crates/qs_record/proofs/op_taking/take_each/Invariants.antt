use Rattle.qs_record.proofs.Ops.{ChangesRead}
use Rattle.qs_record.proofs.op_taking.take_each.Given as goal

abbrev pub invariant-loop-turn : goal.invariant-loop-turn
invariant-loop-turn l = ChangesRead l.count l._turn l.changes l.fn.reader l.reader
