use Rattle.qs_world_lawful.proofs.BesideWhole.{may_step_on}
use Rattle.qs_world_lawful.proofs.lawful_beside.whole_step_is_given.Goals as goal

pub returns : goal.returns
returns c = may_step_on
