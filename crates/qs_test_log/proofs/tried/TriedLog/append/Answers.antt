use Rattle.qs_test_log.proofs.tried.TriedLog.append.Goals as goal

pub invariant_of-self : goal.invariant_of-self
invariant_of-self c = c.append.ensures.stands tt c.self.invariant
