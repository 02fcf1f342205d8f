use Rattle.qs_packet.proofs.Parts.{behind_six}
use Rattle.qs_packet.proofs.decoding.take_request.Goals as goal

pub returns-clause-value : goal.returns-clause-value
returns-clause-value c = behind_six c.in_ok-tid.ensures.value c.in_ok-label.ensures.value c.in_ok-member.ensures.value c.in_ok-number.ensures.value c.in_ok-issuer.ensures.value c.in_ok-op.ensures.value
