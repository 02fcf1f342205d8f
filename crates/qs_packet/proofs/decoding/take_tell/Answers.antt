use Rattle.qs_packet.proofs.Parts.{behind_two}
use Rattle.qs_packet.proofs.decoding.take_tell.Goals as goal

pub returns-clause-value : goal.returns-clause-value
returns-clause-value c = behind_two c.in_ok-tid.ensures.value c.in_ok-outcome.ensures.value
