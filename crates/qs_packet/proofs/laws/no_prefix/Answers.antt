use Rattle.qs_packet.proofs.Decoded.{packet_front}
use Rattle.qs_packet.proofs.laws.no_prefix.Goals as goal

pub returns : goal.returns
returns c = packet_front
