use Rattle.qs_world_runs.proofs.RisesBeside.{rise_keeps_beside}
use Rattle.qs_world_runs.proofs.joined_runs.restart_leaves_what_stands_beside.Goals as goal

pub returns : goal.returns
returns c = rise_keeps_beside
