use Rattle.qs_world_lawful.proofs.Silent.{by_next}
use Rattle.qs_world_lawful.proofs.lawful_servers.next_leaves_all.Goals as goal

pub returns : goal.returns
returns c = by_next
