use Rattle.qs_world_said.proofs.StepWhole.{none_came_is_on, step_keeps_said}
use Rattle.qs_world_said.proofs.steps.steps_keep_to_the_script.Goals as goal

pub returns : goal.returns
returns c = record { steps = step_keeps_said; on = none_came_is_on }
