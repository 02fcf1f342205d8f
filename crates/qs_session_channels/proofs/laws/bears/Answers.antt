use Rattle.std.proofs.Common.{[], ◌++◌}
use Rattle.qs_session_channels.proofs.Numbering.{bears_next, bears_opening, still_numbered}
use Rattle.qs_session_channels.proofs.laws.bears.Goals as goal

pub returns-clause-opening : goal.returns-clause-opening
returns-clause-opening g c = bears_opening

pub returns-clause-next : goal.returns-clause-next
returns-clause-next g c = bears_next

pub returns-clause-still : goal.returns-clause-still
returns-clause-still g c = λ is number m w c u r d k may next. still_numbered is number m c u (λ n m i j. (r.between n m).prefix i j) d k may next
