use Rattle.qs_world_refine.proofs.ShownMoves.{move_shown, run_shown, shown_run_goes}
use Rattle.qs_world_refine.proofs.shown.runs.Goals as goal

pub returns : goal.returns
returns c = record { moved = move_shown; shown = run_shown; goes = shown_run_goes }
