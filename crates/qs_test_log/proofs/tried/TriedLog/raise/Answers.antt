use Rattle.qs_test_log.proofs.tried.TriedLog.raise.Goals as goal

pub invariant_of-result-in-Ok : goal.invariant_of-result-in-Ok
invariant_of-result-in-Ok c = c.in-Ok.ensures.stands tt
