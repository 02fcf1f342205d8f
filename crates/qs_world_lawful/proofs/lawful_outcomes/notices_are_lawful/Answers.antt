use Rattle.qs_world_lawful.proofs.FilesHeld.{files_held}
use Rattle.qs_world_lawful.proofs.Notices.{by_notices}
use Rattle.qs_world_lawful.proofs.lawful_outcomes.notices_are_lawful.Goals as goal

pub returns : goal.returns
returns c = λ x0 x1 x2 x3 x4 x5 x6 x8 x9. by_notices x0 x1 x2 x3 x4 x5 x6 (files_held x0 x1 x2 x6) x8 x9
