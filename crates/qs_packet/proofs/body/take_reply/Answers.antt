use Rattle.qs_packet.proofs.Parts.{reply_answered}
use Rattle.qs_packet.proofs.body.take_reply.Goals as goal

pub returns-clause-value : goal.returns-clause-value
returns-clause-value c = reply_answered c.in_ok-tag.tag c.reply_behind.result c.args.source.now c.tag.new.self c.reply_behind.new.source c.in_ok-tag.ensures.value c.reply_behind.ensures.value
