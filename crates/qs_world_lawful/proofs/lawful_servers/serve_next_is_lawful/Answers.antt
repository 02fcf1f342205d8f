use Rattle.qs_world_lawful.proofs.FilesHeld.{files_held}
use Rattle.qs_world_lawful.proofs.ServingNext.{by_serve_next}
use Rattle.qs_world_lawful.proofs.lawful_servers.serve_next_is_lawful.Goals as goal

pub returns : goal.returns
returns c = λ x0 x1 x2 x3 x5 x6 x7 x8. by_serve_next x0 x1 x2 x3 (files_held x0 x1 x2 x3) x5 x6 x7 x8
