use Rattle.qs_world_lawful.proofs.GivenWhole.{may_step}
use Rattle.qs_world_lawful.proofs.lawful_given.step_is_given.Goals as goal

pub returns : goal.returns
returns c = may_step
