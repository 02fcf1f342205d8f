use Rattle.qs_restart_state.proofs.Opens.{open_is_kept, opens_same}
use Rattle.qs_restart_state.proofs.laws.same_transactions_are_open.Goals as goal

pub returns : goal.returns
returns c = record { kept = open_is_kept; same = opens_same }
