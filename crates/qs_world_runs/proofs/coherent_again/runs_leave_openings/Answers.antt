use Rattle.qs_world_runs.proofs.NextOpening.{each_run_coherent}
use Rattle.qs_world_runs.proofs.NextRuns.{each_run_may_follow}
use Rattle.qs_world_runs.proofs.coherent_again.runs_leave_openings.Goals as goal

pub returns : goal.returns
returns c = record { next = each_run_coherent; follows = each_run_may_follow }
