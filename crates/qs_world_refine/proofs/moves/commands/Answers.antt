use Rattle.qs_world_refine.proofs.OpenMoves.{start_open, move_may, move_open}
use Rattle.qs_world_refine.proofs.moves.commands.Goals as goal

pub returns : goal.returns
returns c = record { start = start_open; may = move_may; moves = move_open }
