use Rattle.std.proofs.Common.{◌≡◌, subst}
use Rattle.qs_session_channels.specs.End.{answer}
use Rattle.qs_session.specs.Seen.{seen, answer_with}
use Rattle.qs_session.proofs.session.Session.receive.Goals as goal

pub returns-in-Some-clause-answer : goal.returns-in-Some-clause-answer
returns-in-Some-clause-answer c = subst (λ t. answer_with t c.args.packet.message ≡ answer c.args.self.now.end (seen c.args.packet)) c.in-Some.is (c.take_in.ensures.answer c.args.packet.stamp c.args.packet.message)

pub returns-in-None-clause-answer : goal.returns-in-None-clause-answer
returns-in-None-clause-answer c = subst (λ t. answer_with t c.args.packet.message ≡ answer c.args.self.now.end (seen c.args.packet)) c.in-None.is (c.take_in.ensures.answer c.args.packet.stamp c.args.packet.message)
