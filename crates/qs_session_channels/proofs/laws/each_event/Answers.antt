use Rattle.qs_session_channels.proofs.RunShown.{goes}
use Rattle.qs_session_channels.proofs.laws.each_event.Goals as goal

pub returns : goal.returns
returns g c = goes
