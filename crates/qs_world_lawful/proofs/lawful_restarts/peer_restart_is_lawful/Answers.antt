use Rattle.qs_world_lawful.proofs.PeerRestarts.{by_peer_restarted}
use Rattle.qs_world_lawful.proofs.lawful_restarts.peer_restart_is_lawful.Goals as goal

pub returns : goal.returns
returns c = by_peer_restarted
