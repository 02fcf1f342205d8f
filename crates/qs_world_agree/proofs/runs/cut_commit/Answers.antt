use Rattle.qs_world_agree.proofs.CutCommitRun.{shown}
use Rattle.qs_world_agree.proofs.runs.cut_commit.Goals as goal

pub returns : goal.returns
returns c = record { shown = shown }
