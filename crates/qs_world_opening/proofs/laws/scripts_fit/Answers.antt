use Rattle.qs_world_opening.proofs.FitScripts.{script_fits}
use Rattle.qs_world_opening.proofs.laws.scripts_fit.Goals as goal

pub returns : goal.returns
returns c = script_fits
