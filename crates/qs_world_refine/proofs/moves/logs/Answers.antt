use Rattle.qs_world_refine.proofs.SaidMoves.{opening_said, restart_said, move_said}
use Rattle.qs_world_refine.proofs.SaidSteps.{step_said, step_seated, step_forces, step_open}
use Rattle.qs_world_refine.proofs.SaysSeen.{said_seen, seen_said}
use Rattle.qs_world_refine.proofs.moves.logs.Goals as goal

pub returns : goal.returns
returns c = record { seen = said_seen; said = seen_said; opens = opening_said; step = step_said; seated = step_seated; forces = step_forces; stays_open = step_open; restart = restart_said; moves = move_said }
