use Rattle.qs_world_refine.proofs.CloserStands.{covered_stands, voted_yes_stands}
use Rattle.qs_world_refine.proofs.steps.closers.Goals as goal

pub returns : goal.returns
returns c = record { covered = covered_stands; voted_yes = voted_yes_stands }
