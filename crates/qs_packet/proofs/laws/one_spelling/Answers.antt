use Rattle.qs_packet.proofs.One.{packet_one}
use Rattle.qs_packet.proofs.laws.one_spelling.Goals as goal

pub returns : goal.returns
returns c = packet_one
