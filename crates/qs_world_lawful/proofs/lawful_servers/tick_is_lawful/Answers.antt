use Rattle.qs_world_lawful.proofs.Silent.{by_tick}
use Rattle.qs_world_lawful.proofs.lawful_servers.tick_is_lawful.Goals as goal

pub returns : goal.returns
returns c = by_tick
