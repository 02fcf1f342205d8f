use Rattle.qs_session_channels.proofs.Greeting.{unmet, owed}
use Rattle.qs_session_channels.proofs.laws.greets.Goals as goal

pub returns-clause-unmet : goal.returns-clause-unmet
returns-clause-unmet g c = unmet

pub returns-clause-owed : goal.returns-clause-owed
returns-clause-owed g c = owed
