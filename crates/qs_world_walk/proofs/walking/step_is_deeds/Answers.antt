use Rattle.qs_world_walk.proofs.IsDeeds.{step_is_deeds}
use Rattle.qs_world_walk.proofs.walking.step_is_deeds.Goals as goal

pub returns : goal.returns
returns c = step_is_deeds
