use Rattle.qs_session_settling.proofs.Meeting.{meets, has_met}
use Rattle.qs_session_settling.proofs.laws.meets.Goals as goal

pub returns-clause-knowing : goal.returns-clause-knowing
returns-clause-knowing g c = meets

pub returns-clause-whole : goal.returns-clause-whole
returns-clause-whole g c = has_met
