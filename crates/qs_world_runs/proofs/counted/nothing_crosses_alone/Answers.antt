use Rattle.qs_world_runs.proofs.UncrossedRuns.{uncrossed_alone}
use Rattle.qs_world_runs.proofs.counted.nothing_crosses_alone.Goals as goal

pub returns : goal.returns
returns c = uncrossed_alone
