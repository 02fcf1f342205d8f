use Rattle.qs_world_filed.proofs.Kept.{runs_as_set}
use Rattle.qs_world_filed.proofs.runs.runs_keep_what_is_set.Goals as goal

pub returns : goal.returns
returns c = runs_as_set
