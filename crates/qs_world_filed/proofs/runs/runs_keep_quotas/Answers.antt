use Rattle.qs_world_filed.proofs.Kept.{runs_fit}
use Rattle.qs_world_filed.proofs.runs.runs_keep_quotas.Goals as goal

pub returns : goal.returns
returns c = runs_fit
