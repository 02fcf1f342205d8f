use Rattle.qs_world_refine.proofs.RestartStands.{peer_restarted_goes}
use Rattle.qs_world_refine.proofs.steps.restarts.Goals as goal

pub returns : goal.returns
returns c = record { found = peer_restarted_goes }
