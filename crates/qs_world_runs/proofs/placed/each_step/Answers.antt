use Rattle.qs_world_runs.proofs.FreshFinds.{fresh_find}
use Rattle.qs_world_runs.proofs.PlacesSteps.{steps_keep_places}
use Rattle.qs_world_runs.proofs.WholeFinds.{whole_find}
use Rattle.qs_world_runs.proofs.placed.each_step.Goals as goal

pub returns : goal.returns
returns c = record { begun = whole_find; fresh = fresh_find; keeps = steps_keep_places }
