use Rattle.qs_world_refine.proofs.BeginStands.{begin_incarnation_goes}
use Rattle.qs_world_refine.proofs.steps.beginnings.Goals as goal

pub returns : goal.returns
returns c = record { begin = begin_incarnation_goes }
