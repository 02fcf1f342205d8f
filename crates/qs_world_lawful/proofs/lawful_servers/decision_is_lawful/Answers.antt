use Rattle.qs_world_lawful.proofs.DecidingOne.{by_decide}
use Rattle.qs_world_lawful.proofs.lawful_servers.decision_is_lawful.Goals as goal

pub returns : goal.returns
returns c = by_decide
