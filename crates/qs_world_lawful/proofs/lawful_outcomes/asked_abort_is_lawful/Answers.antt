use Rattle.qs_world_lawful.proofs.FilesHeld.{files_held}
use Rattle.qs_world_lawful.proofs.DecidingByRules.{by_asked_abort}
use Rattle.qs_world_lawful.proofs.lawful_outcomes.asked_abort_is_lawful.Goals as goal

pub returns : goal.returns
returns c = λ x0 x1 x2 x3 x4 x5 x6 x8 x9 x10 x11 x12 x13 x14. by_asked_abort x0 x1 x2 x3 x4 x5 x6 (files_held x0 x1 x2 x6) x8 x9 x10 x11 x12 x13 x14
