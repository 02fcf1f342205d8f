use Rattle.qs_world_said.proofs.Whole.{lawful_step_leaves}
use Rattle.qs_world_said.proofs.steps.lawful_steps_leave_clients_standing.Goals as goal

pub returns : goal.returns
returns c = lawful_step_leaves
