use Rattle.qs_world_runs.proofs.LogsStandFor.{each_log_stands_for}
use Rattle.qs_world_runs.proofs.coherent_again.logs_stand_for_states.Goals as goal

pub returns : goal.returns
returns c = each_log_stands_for
