use Rattle.qs_world_filed.proofs.SetMoves.{moves_keep_set, opens_set}
use Rattle.qs_world_filed.proofs.SetTable.{steps_as_set}
use Rattle.qs_world_filed.proofs.steps.steps_say_what_is_set.Goals as goal

pub returns : goal.returns
returns c = record { steps = steps_as_set; opens = opens_set; moves = moves_keep_set }
