use Rattle.qs_world_said.proofs.NamesAfter.{step_keeps_names}
use Rattle.qs_world_said.proofs.steps.steps_keep_names.Goals as goal

pub returns : goal.returns
returns c = step_keeps_names
