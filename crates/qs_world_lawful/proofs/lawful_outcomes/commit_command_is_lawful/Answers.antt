use Rattle.qs_world_lawful.proofs.OwnersCommands.{by_commit_command}
use Rattle.qs_world_lawful.proofs.lawful_outcomes.commit_command_is_lawful.Goals as goal

pub returns : goal.returns
returns c = by_commit_command
