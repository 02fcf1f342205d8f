use Rattle.qs_world_lawful.proofs.Settled.{by_settle}
use Rattle.qs_world_lawful.proofs.lawful_steps.settle_is_lawful.Goals as goal

pub returns : goal.returns
returns c = by_settle
