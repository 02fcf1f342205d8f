use Rattle.qs_packet.proofs.Parts.{seven_more}
use Rattle.qs_packet.proofs.decoding.take_packet.Goals as goal

pub returns-clause-value : goal.returns-clause-value
returns-clause-value c = seven_more c.in_ok-from.ensures.value c.in_ok-inc.ensures.value c.in_ok-to.ensures.value c.in_ok-to_inc.ensures.value c.in_ok-number.ensures.value c.in_ok-ack.ensures.value c.in_ok-stamp.ensures.value c.in_ok-message.ensures.value
