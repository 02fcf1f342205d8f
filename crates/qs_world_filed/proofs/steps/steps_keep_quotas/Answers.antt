use Rattle.qs_world_filed.proofs.FitSteps.{steps_fit}
use Rattle.qs_world_filed.proofs.steps.steps_keep_quotas.Goals as goal

pub returns : goal.returns
returns c = steps_fit
