use Rattle.qs_world_runs.proofs.RunsGoOn.{runs_go}
use Rattle.qs_world_runs.proofs.joined_runs.places_go_on.Goals as goal

pub returns : goal.returns
returns c = runs_go
