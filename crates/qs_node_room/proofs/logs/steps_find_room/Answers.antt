use Rattle.qs_node_room.proofs.LogsFit.{each_step_logs}
use Rattle.qs_node_room.proofs.logs.steps_find_room.Goals as goal

pub returns : goal.returns
returns c = each_step_logs
