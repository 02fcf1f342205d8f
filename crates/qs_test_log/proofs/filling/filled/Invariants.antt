use Rattle.qs_log.specs.Log.{Stands}
use Rattle.qs_test_log.proofs.filling.filled.Given as goal

abbrev pub invariant-loop-turn : goal.invariant-loop-turn
invariant-loop-turn l = Stands l.log l.log.disk.disk
