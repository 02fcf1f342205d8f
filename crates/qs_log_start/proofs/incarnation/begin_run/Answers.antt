use Rattle.std.proofs.Common.{◌+◌, subst, sym}
use Rattle.qs_disk.specs.Disk.{EachImage}
use Rattle.qs_disk.specs.Moments.{Keeps}
use Rattle.qs_log_start.specs.Incarnation.{open_limit, IsTouched}
use Rattle.qs_log_start.proofs.Beginning.{armed_log}
use Rattle.qs_slot.specs.Slot.{StandBelow}
use Rattle.qs_log_start.proofs.incarnation.begin_run.Goals as goal

pub returns-in-Ok-clause-raised : goal.returns-in-Ok-clause-raised
returns-in-Ok-clause-raised g c = λ told.
    armed_log open_limit (g.D.Disk.state c.args.disk.disk).content c.in-Ok.log c.arm.new.self c.arm.ensures.same (c.in-Ok.ensures.raised told)

pub returns-in-Ok-clause-stands : goal.returns-in-Ok-clause-stands
returns-in-Ok-clause-stands g c = λ told. c.arm.ensures.stands told (c.in-Ok.ensures.stands told)

pub returns-in-Ok-clause-moments : goal.returns-in-Ok-clause-moments
returns-in-Ok-clause-moments g c = λ told.
    let s = (g.D.Disk.state c.args.disk.disk) in
    subst (λ d. Keeps (IsTouched s) s (g.D.Disk.state d)) (sym c.arm.ensures.same.disk) (c.in-Ok.ensures.moments told)

pub returns-in-Err-clause-damaged : goal.returns-in-Err-clause-damaged
returns-in-Err-clause-damaged g c = λ told at is. c.in-Err.ensures.damaged told at (c.own_fault-why.ensures.damaged at is)

pub returns-in-Ok-clause-below : goal.returns-in-Ok-clause-below
returns-in-Ok-clause-below g c = λ told.
    subst (λ d. EachImage (StandBelow (open_limit + 1)) (g.D.Disk.state d).now) (sym c.arm.ensures.same.disk) (c.in-Ok.ensures.below told)
