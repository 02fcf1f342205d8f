use Rattle.qs_session_settling.proofs.AtRest.{falls_silent, is_silent, rests}
use Rattle.qs_session_settling.proofs.laws.rests.Goals as goal

pub returns-clause-falls : goal.returns-clause-falls
returns-clause-falls g c = falls_silent

pub returns-clause-silent : goal.returns-clause-silent
returns-clause-silent g c = is_silent

pub returns-clause-stays : goal.returns-clause-stays
returns-clause-stays g c = rests
