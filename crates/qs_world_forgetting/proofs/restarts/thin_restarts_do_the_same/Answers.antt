use Rattle.qs_world_forgetting.proofs.ThinRestarts.{each_thin_restart}
use Rattle.qs_world_forgetting.proofs.restarts.thin_restarts_do_the_same.Goals as goal

pub returns : goal.returns
returns c = each_thin_restart
