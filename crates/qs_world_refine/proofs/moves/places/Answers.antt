use Rattle.qs_world_refine.proofs.Placing.{placed_stay}
use Rattle.qs_world_refine.proofs.Starting.{start_placed}
use Rattle.qs_world_refine.proofs.moves.places.Goals as goal

pub returns : goal.returns
returns c = record { start = start_placed; stay = placed_stay }
