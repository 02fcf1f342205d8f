use Rattle.qs_session_channels.specs.Channels.{opening}
use Rattle.qs_session_channels.proofs.RunShown.{start_shown}
use Rattle.qs_session_channels.proofs.Meeting.{has_met}
use Rattle.qs_session_channels.proofs.laws.meets.Goals as goal

pub returns : goal.returns
returns g c = λ hello inc es w run. has_met hello inc es w (opening inc) (start_shown inc) run
