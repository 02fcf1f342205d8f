use Rattle.qs_world_agree.proofs.LateJoinRun.{shown}
use Rattle.qs_world_agree.proofs.runs.late_join.Goals as goal

pub returns : goal.returns
returns c = record { shown = shown }
