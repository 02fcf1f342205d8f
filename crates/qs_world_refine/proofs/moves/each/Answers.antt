use Rattle.qs_world_refine.proofs.EachMay.{each_may_come}
use Rattle.qs_world_refine.proofs.EachMoveGoes.{shown_fits, each_move_goes}
use Rattle.qs_world_refine.proofs.EachRunGoes.{each_run_goes}
use Rattle.qs_world_refine.proofs.moves.each.Goals as goal

pub returns : goal.returns
returns c = record { fits = shown_fits; may = each_may_come; moves = each_move_goes; runs = each_run_goes }
