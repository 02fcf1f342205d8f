use Rattle.qs_world_runs.proofs.RecordSteps.{steps_make_records}
use Rattle.qs_world_runs.proofs.joined_runs.steps_make_records.Goals as goal

pub returns : goal.returns
returns c = steps_make_records
