use Rattle.qs_packet.proofs.Decoded.{spelled_decoded}
use Rattle.qs_packet.proofs.laws.reads_back.Goals as goal

pub returns : goal.returns
returns c = spelled_decoded
