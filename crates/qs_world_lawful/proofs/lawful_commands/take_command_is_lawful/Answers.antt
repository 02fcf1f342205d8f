use Rattle.qs_world_lawful.proofs.Borrowing.{by_take_command}
use Rattle.qs_world_lawful.proofs.lawful_commands.take_command_is_lawful.Goals as goal

pub returns : goal.returns
returns c = by_take_command
