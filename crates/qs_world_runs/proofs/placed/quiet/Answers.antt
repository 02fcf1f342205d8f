use Rattle.qs_world_runs.proofs.CommitsPlaced.{ready_free}
use Rattle.qs_world_runs.proofs.FreeLives.{free_agrees}
use Rattle.qs_world_runs.proofs.Quiets.{quiet_unanimous}
use Rattle.qs_world_runs.proofs.placed.quiet.Goals as goal

pub returns : goal.returns
returns c = record { ready = ready_free; agrees = free_agrees; unanimous = quiet_unanimous }
