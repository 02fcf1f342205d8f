use Rattle.qs_packet.proofs.Parts.{message_answered}
use Rattle.qs_packet.proofs.decoding.take_message.Goals as goal

pub returns-then-not-hello-clause-value : goal.returns-then-not-hello-clause-value
returns-then-not-hello-clause-value c = message_answered c.in_ok-tag.tag c.take_behind.result c.args.source.now c.tag.new.self c.take_behind.new.source c.in_ok-tag.ensures.value c.take_behind.ensures.value
