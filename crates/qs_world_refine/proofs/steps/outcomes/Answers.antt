use Rattle.qs_world_refine.proofs.InquireStands.{inquire_stands}
use Rattle.qs_world_refine.proofs.TellStands.{tell_stands}
use Rattle.qs_world_refine.proofs.steps.outcomes.Goals as goal

pub returns : goal.returns
returns c = record { tell = tell_stands; inquire = inquire_stands }
