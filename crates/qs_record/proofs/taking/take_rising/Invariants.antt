use Rattle.qs_record.proofs.Rising.{RisingRead}
use Rattle.qs_record.proofs.taking.take_rising.Given as goal

abbrev pub invariant-loop-turn : goal.invariant-loop-turn
invariant-loop-turn l = RisingRead l.count l._turn l.least l.nodes l.fn.reader l.reader
