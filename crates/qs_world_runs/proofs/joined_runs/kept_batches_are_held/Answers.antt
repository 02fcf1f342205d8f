use Rattle.qs_world_runs.proofs.Words.{AlongRun}
use Rattle.qs_world_runs.proofs.CutHeld.{cut_held}
use Rattle.qs_world_runs.proofs.RunsGoOn.{runs_go}
use Rattle.qs_world_runs.proofs.joined_runs.kept_batches_are_held.Goals as goal

pub returns : goal.returns
returns c = λ o world n stamp free source cause j may. cut_held AlongRun runs_go.steps runs_go.votes runs_go.unanimous o world n stamp free source cause j may
