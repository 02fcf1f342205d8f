use Rattle.qs_world_agree.proofs.CutPassRun.{shown}
use Rattle.qs_world_agree.proofs.runs.cut_pass.Goals as goal

pub returns : goal.returns
returns c = record { shown = shown }
