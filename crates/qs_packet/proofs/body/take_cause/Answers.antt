use Rattle.qs_packet.proofs.Parts.{cause_answered}
use Rattle.qs_packet.proofs.body.take_cause.Goals as goal

pub returns-clause-value : goal.returns-clause-value
returns-clause-value c = cause_answered c.in_ok-tag.tag c.cause_behind.result c.args.source.now c.tag.new.self c.cause_behind.new.source c.in_ok-tag.ensures.value c.cause_behind.ensures.value
