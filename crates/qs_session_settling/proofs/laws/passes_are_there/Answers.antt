use Rattle.qs_session_settling.proofs.Plainly.{has_passes}
use Rattle.qs_session_settling.proofs.laws.passes_are_there.Goals as goal

pub returns : goal.returns
returns g c = has_passes
