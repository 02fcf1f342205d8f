use Rattle.qs_world_agree.proofs.Doomed.{busy_engaged, engaged_is_open, left_open, kept_back_open}
use Rattle.qs_world_agree.proofs.laws.open_still.Goals as goal

pub returns : goal.returns
returns c = record { busy = busy_engaged; engaged = engaged_is_open; left = left_open; kept_back = kept_back_open }
