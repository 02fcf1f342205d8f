use Rattle.qs_world_packets.proofs.SessionsPlain.{is_plain}
use Rattle.qs_world_packets.proofs.sessions.sessions_are_plain.Goals as goal

pub returns : goal.returns
returns c = is_plain
