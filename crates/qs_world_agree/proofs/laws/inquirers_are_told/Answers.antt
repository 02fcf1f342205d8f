use Rattle.qs_world_agree.proofs.Remembered.{remembered}
use Rattle.qs_world_agree.proofs.laws.inquirers_are_told.Goals as goal

pub returns : goal.returns
returns c = record { remembered = remembered }
