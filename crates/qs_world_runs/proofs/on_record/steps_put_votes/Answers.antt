use Rattle.qs_world_runs.proofs.RecordSteps.{steps_put_votes}
use Rattle.qs_world_runs.proofs.on_record.steps_put_votes.Goals as goal

pub returns : goal.returns
returns c = steps_put_votes
