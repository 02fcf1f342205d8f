use Rattle.qs_world_lawful.proofs.BesideWhole.{keeps_beside}
use Rattle.qs_world_lawful.proofs.lawful_beside.rules_keep_what_is_beside.Goals as goal

pub returns : goal.returns
returns c = keeps_beside
