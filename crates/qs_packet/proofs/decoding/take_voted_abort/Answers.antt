use Rattle.qs_packet.proofs.Parts.{behind_one_more}
use Rattle.qs_packet.proofs.decoding.take_voted_abort.Goals as goal

pub returns-clause-value : goal.returns-clause-value
returns-clause-value c = behind_one_more c.in_ok-tid.ensures.value c.in_ok-cause.ensures.value
