use Rattle.qs_session_channels.proofs.NothingCrosses.{lasts}
use Rattle.qs_session_channels.proofs.laws.nothing_crosses.Goals as goal

pub returns : goal.returns
returns g c = lasts
