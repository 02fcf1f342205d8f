use Rattle.qs_packet.proofs.One.{packet_valid}
use Rattle.qs_packet.proofs.laws.valid.Goals as goal

pub returns : goal.returns
returns c = packet_valid
