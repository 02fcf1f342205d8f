use Rattle.qs_world_agree.proofs.LeftCommitRun.{shown}
use Rattle.qs_world_agree.proofs.runs.left_commit.Goals as goal

pub returns : goal.returns
returns c = record { shown = shown }
