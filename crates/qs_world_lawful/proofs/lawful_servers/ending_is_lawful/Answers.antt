use Rattle.qs_world_lawful.proofs.Learning.{by_end}
use Rattle.qs_world_lawful.proofs.lawful_servers.ending_is_lawful.Goals as goal

pub returns : goal.returns
returns c = by_end
