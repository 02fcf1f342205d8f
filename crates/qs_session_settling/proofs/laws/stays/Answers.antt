use Rattle.qs_session_settling.proofs.Staying.{stays}
use Rattle.qs_session_settling.proofs.Meeting.{stays_known, stays_met}
use Rattle.qs_session_settling.proofs.laws.stays.Goals as goal

pub returns-clause-consistent : goal.returns-clause-consistent
returns-clause-consistent g c = stays

pub returns-clause-known : goal.returns-clause-known
returns-clause-known g c = stays_known

pub returns-clause-met : goal.returns-clause-met
returns-clause-met g c = stays_met
