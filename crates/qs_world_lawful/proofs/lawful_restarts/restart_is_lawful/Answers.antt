use Rattle.qs_world_lawful.proofs.Restarting.{may_restart}
use Rattle.qs_world_lawful.proofs.lawful_restarts.restart_is_lawful.Goals as goal

pub returns : goal.returns
returns c = may_restart
