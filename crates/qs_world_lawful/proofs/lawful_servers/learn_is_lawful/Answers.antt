use Rattle.qs_world_lawful.proofs.Learning.{by_learn}
use Rattle.qs_world_lawful.proofs.lawful_servers.learn_is_lawful.Goals as goal

pub returns : goal.returns
returns c = by_learn
