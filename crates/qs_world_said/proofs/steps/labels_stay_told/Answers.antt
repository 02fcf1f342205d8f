use Rattle.qs_world_said.proofs.Labelled.{labels_stay_told}
use Rattle.qs_world_said.proofs.steps.labels_stay_told.Goals as goal

pub returns : goal.returns
returns c = labels_stay_told
