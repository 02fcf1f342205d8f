use Rattle.qs_world_agree.proofs.LeftDoubtRun.{shown}
use Rattle.qs_world_agree.proofs.runs.left_doubt.Goals as goal

pub returns : goal.returns
returns c = record { shown = shown }
