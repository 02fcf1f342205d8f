use Rattle.qs_session_settling.proofs.HandedUp.{hands_up, has_handed_up}
use Rattle.qs_session_settling.proofs.laws.hands_up.Goals as goal

pub returns-clause-knowing : goal.returns-clause-knowing
returns-clause-knowing g c = hands_up

pub returns-clause-whole : goal.returns-clause-whole
returns-clause-whole g c = has_handed_up
