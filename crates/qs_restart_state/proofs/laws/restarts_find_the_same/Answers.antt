use Rattle.qs_restart_state.proofs.Taken.{finds_same}
use Rattle.qs_restart_state.proofs.laws.restarts_find_the_same.Goals as goal

pub returns : goal.returns
returns c = finds_same
