use Rattle.qs_node_host.proofs.Fresh.{fresh_roomy}
use Rattle.qs_node_host.proofs.laws.fresh_disks_are_roomy.Goals as goal

pub returns : goal.returns
returns c = fresh_roomy
