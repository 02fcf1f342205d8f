use Rattle.qs_restart_state.proofs.GoesOn.{stays_alike}
use Rattle.qs_restart_state.proofs.laws.what_reads_alike_goes_on.Goals as goal

pub returns : goal.returns
returns c = stays_alike
