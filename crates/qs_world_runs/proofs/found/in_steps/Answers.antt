use Rattle.qs_world_runs.proofs.FoundSteps.{steps_find}
use Rattle.qs_world_runs.proofs.found.in_steps.Goals as goal

pub returns : goal.returns
returns c = steps_find
