use Rattle.qs_world_runs.proofs.Words.{PlacesAt}
use Rattle.qs_world_runs.proofs.IssuedSteps.{each_issue_waits}
use Rattle.qs_world_runs.proofs.placed.issues_wait.Goals as goal

pub returns : goal.returns
returns c = each_issue_waits PlacesAt
