use Rattle.qs_world_merge.proofs.RunsSplit.{each_run_splits}
use Rattle.qs_world_merge.proofs.splitting.runs_split.Goals as goal

pub returns : goal.returns
returns c = each_run_splits
