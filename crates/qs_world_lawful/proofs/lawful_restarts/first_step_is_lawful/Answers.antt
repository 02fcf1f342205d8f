use Rattle.qs_world_lawful.proofs.FilesHeld.{files_held}
use Rattle.qs_world_lawful.proofs.FirstSteps.{by_begin_incarnation}
use Rattle.qs_world_lawful.proofs.lawful_restarts.first_step_is_lawful.Goals as goal

pub returns : goal.returns
returns c = λ x0 x1 x2 x3. by_begin_incarnation x0 x1 x2 x3 (files_held x0 x1 x2 x3)
