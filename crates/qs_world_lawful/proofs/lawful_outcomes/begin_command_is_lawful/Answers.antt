use Rattle.qs_world_lawful.proofs.Commanding.{by_begin_command}
use Rattle.qs_world_lawful.proofs.lawful_outcomes.begin_command_is_lawful.Goals as goal

pub returns : goal.returns
returns c = by_begin_command
