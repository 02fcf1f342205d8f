use Rattle.qs_test_log.proofs.tried.TriedLog.arm.Goals as goal

pub invariant_of-self : goal.invariant_of-self
invariant_of-self c = c.arm.ensures.stands tt c.self.invariant
