use Rattle.qs_world_runs.proofs.StepTells.{each_step_tells}
use Rattle.qs_world_runs.proofs.replies.steps_tell_true.Goals as goal

pub returns : goal.returns
returns c = each_step_tells
