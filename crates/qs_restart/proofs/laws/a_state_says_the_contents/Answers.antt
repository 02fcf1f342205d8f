use Rattle.qs_restart.proofs.Applied.{state_says}
use Rattle.qs_restart.proofs.laws.a_state_says_the_contents.Goals as goal

pub returns : goal.returns
returns c = record { state = state_says }
