use Rattle.qs_session_settling.proofs.Knowing.{acquaints}
use Rattle.qs_session_settling.proofs.laws.acquaints.Goals as goal

pub returns : goal.returns
returns g c = acquaints
