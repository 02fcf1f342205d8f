use Rattle.qs_test_log.proofs.tried.TriedLog.force.Goals as goal

pub invariant_of-result : goal.invariant_of-result
invariant_of-result c = c.in-Ok.ensures.stands tt
