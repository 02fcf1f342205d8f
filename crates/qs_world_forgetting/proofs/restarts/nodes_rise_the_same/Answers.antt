use Rattle.qs_world_forgetting.proofs.RisesSame.{each_rises_same}
use Rattle.qs_world_forgetting.proofs.restarts.nodes_rise_the_same.Goals as goal

pub returns : goal.returns
returns c = each_rises_same
