use Rattle.qs_restart_state.proofs.Taken.{each_says}
use Rattle.qs_restart_state.proofs.laws.states_say.Goals as goal

pub returns : goal.returns
returns c = each_says
