-- What all places hold gives a whole step what it needs, and goes on through it.
use Rattle.qs_world_runs.proofs.Words.{WholeSteps, PlacesAt}
use Rattle.qs_world_runs.proofs.CommitsFind.{commits_find}
use Rattle.qs_world_runs.proofs.PlacesSteps.{steps_keep_places}

pub whole_steps : WholeSteps PlacesAt
whole_steps = record { commits = commits_find; places = steps_keep_places }
