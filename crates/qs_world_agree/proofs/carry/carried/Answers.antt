use Rattle.std.proofs.Common.{inl}
use Rattle.qs_world_agree.proofs.Carries.{shown_run}
use Rattle.qs_world_agree.proofs.carry.carried.Goals as goal

pub returns : goal.returns
returns g c = record { shown = λ acts old new none run t. shown_run g.W.OtherWorld.does g.W.OtherWorld.unbegun g.W.OtherWorld.shows g.met.W.Shown.begins g.met.W.Shown.goes_on acts old new t (inl (none t)) run }
