use Rattle.qs_world_lawful.proofs.SameSetting.{step_same}
use Rattle.qs_world_lawful.proofs.WholeStep.{by_step, by_whole_step}
use Rattle.qs_world_lawful.proofs.lawful_steps.step_is_lawful.Goals as goal

pub returns : goal.returns
returns c = record { work = by_step; entries = by_whole_step; setting = step_same }
