use Rattle.qs_session_channels.proofs.Counting.{there, still_counted}
use Rattle.qs_session_channels.proofs.laws.numbers.Goals as goal

pub returns-clause-there : goal.returns-clause-there
returns-clause-there g c = there

pub returns-clause-still : goal.returns-clause-still
returns-clause-still g c = still_counted
