use Rattle.qs_world_said.proofs.Told.{outcomes_stay_told}
use Rattle.qs_world_said.proofs.steps.outcomes_stay_told.Goals as goal

pub returns : goal.returns
returns c = outcomes_stay_told
