use Rattle.qs_world_runs.proofs.CutCommits.{keeps_commits, keeps_votes}
use Rattle.qs_world_runs.proofs.joined_runs.kept_batches_are_settled.Goals as goal

pub returns : goal.returns
returns c = record { commits = keeps_commits; votes = keeps_votes }
