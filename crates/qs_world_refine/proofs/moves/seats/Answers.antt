use Rattle.qs_world_refine.proofs.Seating.{start_seated, move_seated}
use Rattle.qs_world_refine.proofs.moves.seats.Goals as goal

pub returns : goal.returns
returns c = record { start = start_seated; moves = move_seated }
