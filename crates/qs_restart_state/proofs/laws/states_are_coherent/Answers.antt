use Rattle.qs_restart_state.proofs.Taken.{each_coherent}
use Rattle.qs_restart_state.proofs.laws.states_are_coherent.Goals as goal

pub returns : goal.returns
returns c = each_coherent
