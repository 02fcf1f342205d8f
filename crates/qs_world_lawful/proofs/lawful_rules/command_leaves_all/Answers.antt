use Rattle.qs_world_lawful.proofs.Silent.{by_command}
use Rattle.qs_world_lawful.proofs.lawful_rules.command_leaves_all.Goals as goal

pub returns : goal.returns
returns c = by_command
