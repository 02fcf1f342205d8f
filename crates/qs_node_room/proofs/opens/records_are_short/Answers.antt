use Rattle.qs_node_room.proofs.Short.{each_is_short}
use Rattle.qs_node_room.proofs.opens.records_are_short.Goals as goal

pub returns : goal.returns
returns c = each_is_short
