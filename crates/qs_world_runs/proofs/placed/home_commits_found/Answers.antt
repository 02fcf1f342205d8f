use Rattle.qs_world_runs.proofs.CommitsFind.{commits_find}
use Rattle.qs_world_runs.proofs.placed.home_commits_found.Goals as goal

pub returns : goal.returns
returns c = commits_find
