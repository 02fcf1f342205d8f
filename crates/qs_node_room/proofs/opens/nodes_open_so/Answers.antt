use Rattle.qs_node_room.proofs.EachOpens.{each_opens}
use Rattle.qs_node_room.proofs.opens.nodes_open_so.Goals as goal

pub returns : goal.returns
returns c = each_opens
