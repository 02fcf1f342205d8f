use Rattle.qs_packet.proofs.Parts.{behind_three}
use Rattle.qs_packet.proofs.decoding.take_voted_yes.Goals as goal

pub returns-clause-value : goal.returns-clause-value
returns-clause-value c = behind_three c.in_ok-tid.ensures.value c.in_ok-up_to.ensures.value c.in_ok-told.ensures.value
