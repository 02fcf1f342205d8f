use Rattle.qs_world_agree.proofs.Carries.{shown_on}
use Rattle.qs_world_agree.proofs.carry.carried_on.Goals as goal

pub returns : goal.returns
returns g c = record { kept = λ acts old new t w is shown run. shown_on g.W.OtherWorld.does g.W.OtherWorld.shows g.met.W.Shown.goes_on acts old new t w is shown run }
