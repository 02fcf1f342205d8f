use Rattle.qs_restart_state.proofs.Takable.{may_take}
use Rattle.qs_restart_state.proofs.laws.logs_may_be_taken.Goals as goal

pub returns : goal.returns
returns c = may_take
