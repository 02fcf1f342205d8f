use Rattle.qs_world_refine.proofs.ServeStands.{serve_all_goes}
use Rattle.qs_world_refine.proofs.steps.serves.Goals as goal

pub returns : goal.returns
returns c = record { all = serve_all_goes }
