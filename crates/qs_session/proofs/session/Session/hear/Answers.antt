use Rattle.qs_session.proofs.session.Session.hear.Goals as goal

pub returns-clause-answer : goal.returns-clause-answer
returns-clause-answer c = c.take_in.ensures.answer c.args.packet.now.stamp c.args.packet.now.message
