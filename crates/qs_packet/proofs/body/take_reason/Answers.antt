use Rattle.qs_packet.proofs.Parts.{reason_answered}
use Rattle.qs_packet.proofs.body.take_reason.Goals as goal

pub returns-clause-value : goal.returns-clause-value
returns-clause-value c = reason_answered c.in_ok-tag.tag c.reason_behind.result c.args.source.now c.tag.new.self c.reason_behind.new.source c.in_ok-tag.ensures.value c.reason_behind.ensures.value
