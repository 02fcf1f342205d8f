use Rattle.qs_packet.proofs.Parts.{behind_three_more}
use Rattle.qs_packet.proofs.decoding.take_answered.Goals as goal

pub returns-clause-value : goal.returns-clause-value
returns-clause-value c = behind_three_more c.in_ok-tid.ensures.value c.in_ok-member.ensures.value c.in_ok-number.ensures.value c.in_ok-reply.ensures.value
