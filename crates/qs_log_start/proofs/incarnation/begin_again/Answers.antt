use Rattle.qs_log_start.proofs.Beginning.{never_damaged}
use Rattle.qs_log_start.proofs.incarnation.begin_again.Goals as goal

pub returns-in-Err-clause-damaged : goal.returns-in-Err-clause-damaged
returns-in-Err-clause-damaged g c = λ told at is. c.in-Err.ensures.damaged told at (c.not_begun.ensures.damaged at is)

pub returns-in-Err-clause-sound : goal.returns-in-Err-clause-sound
returns-in-Err-clause-sound g c = λ told each at is.
    never_damaged (g.D.Disk.state c.args.disk.disk) _ at each (c.in-Err.ensures.damaged told at (c.not_begun.ensures.damaged at is))
