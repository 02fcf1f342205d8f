use Rattle.qs_world_lawful.proofs.CommandCame.{by_command_came}
use Rattle.qs_world_lawful.proofs.lawful_steps.any_command_is_lawful.Goals as goal

pub returns : goal.returns
returns c = by_command_came
