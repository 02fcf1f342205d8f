use Rattle.qs_test_log.proofs.filling.filled.Goals as goal

pub loop-turn-preserved : goal.loop-turn-preserved
loop-turn-preserved c = c.append.ensures.stands tt c.loop-turn.invariant
