use Rattle.qs_test_log.proofs.filling.opened.Goals as goal

pub returns : goal.returns
returns c = c.in-Ok.ensures.stands tt
