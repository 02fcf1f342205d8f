use Rattle.qs_world_lawful.proofs.Borrowing.{by_yield_command}
use Rattle.qs_world_lawful.proofs.lawful_commands.yield_command_is_lawful.Goals as goal

pub returns : goal.returns
returns c = by_yield_command
