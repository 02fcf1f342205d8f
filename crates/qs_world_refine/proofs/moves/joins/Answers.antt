use Rattle.qs_world_refine.proofs.Joining.{step_closes}
use Rattle.qs_world_refine.proofs.Taken.{handed_taken, noticed_taken}
use Rattle.qs_world_refine.proofs.moves.joins.Goals as goal

pub returns : goal.returns
returns c = record { closes = step_closes; handed = handed_taken; noticed = noticed_taken }
