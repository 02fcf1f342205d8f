use Rattle.qs_world_refine.proofs.MoveGoes.{move_goes}
use Rattle.qs_world_refine.proofs.moves.going.Goals as goal

pub returns : goal.returns
returns c = record { moves = move_goes }
