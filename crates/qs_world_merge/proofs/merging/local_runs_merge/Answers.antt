use Rattle.qs_world_merge.proofs.OneRun.{each_merge_runs}
use Rattle.qs_world_merge.proofs.PlainRuns.{each_plain_merge_runs}
use Rattle.qs_world_merge.proofs.merging.local_runs_merge.Goals as goal

pub returns : goal.returns
returns c = record { exact = each_merge_runs; plain = each_plain_merge_runs }
