use Rattle.qs_world_said.proofs.LawfulStages.{lawful_step_keeps_said}
use Rattle.qs_world_said.proofs.steps.lawful_steps_keep_to_the_script.Goals as goal

pub returns : goal.returns
returns c = lawful_step_keeps_said
