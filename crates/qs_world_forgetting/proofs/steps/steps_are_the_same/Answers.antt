use Rattle.qs_world_forgetting.proofs.KnowingSteps.{each_step_is_same}
use Rattle.qs_world_forgetting.proofs.steps.steps_are_the_same.Goals as goal

pub returns : goal.returns
returns c = each_step_is_same
