use Rattle.qs_world_lawful.proofs.StepKept.{step_kept}
use Rattle.qs_world_lawful.proofs.lawful_beside.whole_step_is_kept.Goals as goal

pub returns : goal.returns
returns c = step_kept
