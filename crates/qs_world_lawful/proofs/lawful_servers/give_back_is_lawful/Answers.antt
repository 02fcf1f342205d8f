use Rattle.qs_world_lawful.proofs.Lending.{by_give_back}
use Rattle.qs_world_lawful.proofs.lawful_servers.give_back_is_lawful.Goals as goal

pub returns : goal.returns
returns c = by_give_back
