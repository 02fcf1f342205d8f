use Rattle.std.proofs.Common.{subst, sym}
use Rattle.qs_disk.specs.Moments.{Keeps}
use Rattle.qs_log_start.specs.Incarnation.{MayLeaveUnraised}
use Rattle.qs_log.specs.Log.{IsOldOrRaised}
use Rattle.qs_slot.specs.Slot.{StandBelow}
use Rattle.qs_log_start.proofs.incarnation.raise.Goals as goal

pub returns-in-Err-clause-moments : goal.returns-in-Err-clause-moments
returns-in-Err-clause-moments g c = λ told.
    subst (λ d. Keeps (IsOldOrRaised c.args.log) (g.D.Disk.state c.args.log.disk.disk) (g.D.Disk.state d.disk)) (sym c.into_disk.ensures) (c.raise.ensures.moments told)

pub returns-in-Err-clause-kept : goal.returns-in-Err-clause-kept
returns-in-Err-clause-kept g c = λ told.
    subst (λ d. MayLeaveUnraised (g.D.Disk.state c.args.log.disk.disk) (g.D.Disk.state d.disk)) (sym c.into_disk.ensures) (c.in-Err.ensures.kept told)

pub returns-in-Err-clause-below : goal.returns-in-Err-clause-below
returns-in-Err-clause-below g c = λ told limit said fits.
    subst (λ d. Keeps (StandBelow limit) (g.D.Disk.state c.args.log.disk.disk) (g.D.Disk.state d.disk)) (sym c.into_disk.ensures) (c.raise.ensures.below told limit said fits)
