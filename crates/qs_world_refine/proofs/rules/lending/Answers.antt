use Rattle.qs_world_refine.proofs.Lending.{take_goes, give_back_goes}
use Rattle.qs_world_refine.proofs.rules.lending.Goals as goal

pub returns : goal.returns
returns c = record { take = take_goes; give_back = give_back_goes }
