use Rattle.qs_world_refine.proofs.CutsAlone.{stop_goes_alone, cut_goes_alone}
use Rattle.qs_world_refine.proofs.CutsKept.{cut_goes_kept}
use Rattle.qs_world_refine.proofs.shown.stops.Goals as goal

pub returns : goal.returns
returns c = record { alone = stop_goes_alone; lost = cut_goes_alone; kept = cut_goes_kept }
