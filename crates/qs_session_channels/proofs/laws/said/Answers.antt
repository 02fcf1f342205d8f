use Rattle.qs_session_channels.specs.Streams.{says}
use Rattle.qs_session_channels.proofs.Saying.{said_opening, hears_well, still_said, said_weaker}
use Rattle.qs_session_channels.proofs.laws.said.Goals as goal

pub returns-clause-opening : goal.returns-clause-opening
returns-clause-opening g c = λ p. said_opening (says p)

pub returns-clause-hears : goal.returns-clause-hears
returns-clause-hears g c = λ p. hears_well (says p)

pub returns-clause-still : goal.returns-clause-still
returns-clause-still g c = λ p. still_said (says p)

pub returns-clause-weaker : goal.returns-clause-weaker
returns-clause-weaker g c = λ p q. said_weaker (says p) (says q)
