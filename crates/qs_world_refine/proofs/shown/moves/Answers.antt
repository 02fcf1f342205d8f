use Rattle.qs_world_refine.proofs.BegunStays.{begun_stays}
use Rattle.qs_world_refine.proofs.ShownMoves.{shown_fit, shown_gives, shown_goes}
use Rattle.qs_world_refine.proofs.shown.moves.Goals as goal

pub returns : goal.returns
returns c = record { fit = shown_fit; gives = shown_gives; goes = shown_goes; begun = begun_stays }
