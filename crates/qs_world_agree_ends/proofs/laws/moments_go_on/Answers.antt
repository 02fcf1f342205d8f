use Rattle.qs_world_agree_ends.proofs.MomentsGoOn.{engaged_goes_on, said_goes_on, risen_goes_on}
use Rattle.qs_world_agree_ends.proofs.laws.moments_go_on.Goals as goal

pub returns : goal.returns
returns c = record { engaged = engaged_goes_on; said = said_goes_on; risen = risen_goes_on }
