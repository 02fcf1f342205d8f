use Rattle.qs_session_settling.proofs.AtRest.{settles}
use Rattle.qs_session_settling.proofs.laws.settles.Goals as goal

pub returns : goal.returns
returns g c = settles
