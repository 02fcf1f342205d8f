use Rattle.qs_world_forgetting.proofs.RisesSame.{each_restart_is_same}
use Rattle.qs_world_forgetting.proofs.restarts.restarts_are_the_same.Goals as goal

pub returns : goal.returns
returns c = each_restart_is_same
