use Rattle.qs_world_runs.proofs.Words.{PlacesAt}
use Rattle.qs_world_runs.proofs.LabelsMoves.{steps_labels}
use Rattle.qs_world_runs.proofs.StoodIdle.{requests_owned}
use Rattle.qs_world_runs.proofs.joined_runs.labels_stay_owned.Goals as goal

pub returns : goal.returns
returns c = record { requests = requests_owned; labels = steps_labels PlacesAt }
