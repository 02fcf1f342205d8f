use Rattle.qs_world_said.proofs.OpensStep.{lawful_step_leaves_open, step_leaves_open}
use Rattle.qs_world_said.proofs.steps.steps_leave_open_what_waits.Goals as goal

pub returns : goal.returns
returns c = record { all = step_leaves_open; lawful = lawful_step_leaves_open }
