use Rattle.qs_world_lawful.proofs.LogLaws.{step_keeps}
use Rattle.qs_world_lawful.proofs.lawful_logs.step_keeps_the_log.Goals as goal

pub returns : goal.returns
returns c = step_keeps
