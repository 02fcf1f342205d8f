use Rattle.std.proofs.Common.{refl}
use Rattle.qs_restart_state.proofs.laws.a_state_by_records.Goals as goal

pub returns : goal.returns
returns c = record { coherent = refl; state_is = refl }
