use Rattle.qs_world_runs.proofs.PlacesJoined.{whole_step_places}
use Rattle.qs_world_runs.proofs.placed.whole_steps.Goals as goal

pub returns : goal.returns
returns c = whole_step_places
