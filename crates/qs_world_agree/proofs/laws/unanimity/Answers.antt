use Rattle.qs_world_agree.proofs.Lawful.{settled}
use Rattle.qs_world_agree.proofs.laws.unanimity.Goals as goal

pub returns : goal.returns
returns c = record { settled = settled }
