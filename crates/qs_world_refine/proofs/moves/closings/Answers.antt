use Rattle.qs_world_refine.proofs.ClosingAll.{stays_closed, closed_goes}
use Rattle.qs_world_refine.proofs.moves.closings.Goals as goal

pub returns : goal.returns
returns c = record { stays = stays_closed; goes = closed_goes }
