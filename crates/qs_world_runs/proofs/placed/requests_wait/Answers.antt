use Rattle.qs_world_runs.proofs.AwaitedEngaged.{busy_engaged}
use Rattle.qs_world_runs.proofs.AwaitedIssued.{issues_wait}
use Rattle.qs_world_runs.proofs.AwaitedSteps.{steps_wait_on, waits_engaged}
use Rattle.qs_world_runs.proofs.placed.requests_wait.Goals as goal

pub returns : goal.returns
returns c = record { on = steps_wait_on; issues = issues_wait; busy = busy_engaged; engaged = waits_engaged }
