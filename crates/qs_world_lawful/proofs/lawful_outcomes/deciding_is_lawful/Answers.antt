use Rattle.qs_world_lawful.proofs.FilesHeld.{files_held}
use Rattle.qs_world_lawful.proofs.Decisions.{by_decision}
use Rattle.qs_world_lawful.proofs.lawful_outcomes.deciding_is_lawful.Goals as goal

pub returns : goal.returns
returns c = λ x0 x1 x2 x3 x4 x5 x6 x7 x9 x10 x11 x12 x13 x14 x15. by_decision x0 x1 x2 x3 x4 x5 x6 x7 (files_held x0 x1 x2 x7) x9 x10 x11 x12 x13 x14 x15
