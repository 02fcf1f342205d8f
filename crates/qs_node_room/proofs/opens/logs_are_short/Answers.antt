use Rattle.qs_node_room.proofs.Short.{each_log_is_short}
use Rattle.qs_node_room.proofs.opens.logs_are_short.Goals as goal

pub returns : goal.returns
returns c = each_log_is_short
