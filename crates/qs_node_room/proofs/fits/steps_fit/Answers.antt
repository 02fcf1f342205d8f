use Rattle.qs_node_room.proofs.EachFits.{each_step_fits}
use Rattle.qs_node_room.proofs.fits.steps_fit.Goals as goal

pub returns : goal.returns
returns c = each_step_fits
