use Rattle.qs_world_refine.proofs.LeftOpenings.{opening_left, opening_shows_all}
use Rattle.qs_world_refine.proofs.ShownBegins.{start_all_shown}
use Rattle.qs_world_refine.proofs.begins.openings.Goals as goal

pub returns : goal.returns
returns c = record { left = opening_left; shown = opening_shows_all; all = start_all_shown }
