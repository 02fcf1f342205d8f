use Rattle.qs_world_runs.proofs.OwnMoves.{each_has_own_changes}
use Rattle.qs_world_runs.proofs.coherent_again.votes_have_own_changes.Goals as goal

pub returns : goal.returns
returns c = each_has_own_changes
