use Rattle.qs_world_refine.proofs.StepGoes.{step_goes}
use Rattle.qs_world_refine.proofs.steps.whole.Goals as goal

pub returns : goal.returns
returns c = record { step = step_goes }
