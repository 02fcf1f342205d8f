use Rattle.qs_disk.proofs.Moments.{cut_keeps}
use Rattle.qs_log_start.specs.Incarnation.{HasOneOf}
use Rattle.qs_log_start.proofs.Beginning.{damaged_left, reopened_if, found_if, kept_moments, left_by_cut, left_moments}
use Rattle.qs_log_start.proofs.incarnation.after_power_cut.Goals as goal

pub returns-in-Ok-clause-reopened : goal.returns-in-Ok-clause-reopened
returns-in-Ok-clause-reopened g c = λ told.
    reopened_if (g.D.Disk.state c.args.disk.disk) (g.D.Disk.state c.power_cut.new.self.disk) c.power_cut.result _ c.next_incarnation.result c.in-Ok.is
    (c.power_cut.ensures.state told) (c.next_incarnation.ensures.raised told)

pub returns-in-Ok-clause-found : goal.returns-in-Ok-clause-found
returns-in-Ok-clause-found g c = λ told.
    found_if (g.D.Disk.state c.args.disk.disk) (g.D.Disk.state c.power_cut.new.self.disk) c.power_cut.result _ c.next_incarnation.result c.in-Ok.is
    (c.power_cut.ensures.state told) (c.next_incarnation.ensures.raised told)

pub returns-in-Ok-clause-moments : goal.returns-in-Ok-clause-moments
returns-in-Ok-clause-moments g c = λ told.
    kept_moments (g.D.Disk.state c.args.disk.disk) (g.D.Disk.state c.power_cut.new.self.disk) _ c.power_cut.result _ c.in-Ok.is
    (c.power_cut.ensures.state told) (c.next_incarnation.ensures.moments told)

pub returns-in-Err-clause-moments : goal.returns-in-Err-clause-moments
returns-in-Err-clause-moments g c = λ told a b here.
    cut_keeps (HasOneOf a b) _ (g.D.Disk.state c.args.disk.disk) (g.D.Disk.state c.power_cut.new.self.disk) here (c.power_cut.ensures.state told)

pub returns-in-Ok-clause-touched : goal.returns-in-Ok-clause-touched
returns-in-Ok-clause-touched g c = λ told.
    left_moments (g.D.Disk.state c.args.disk.disk) (g.D.Disk.state c.power_cut.new.self.disk) _ c.power_cut.result _ c.in-Ok.is
    (c.power_cut.ensures.state told) (c.next_incarnation.ensures.moments told)

pub returns-in-Err-clause-touched : goal.returns-in-Err-clause-touched
returns-in-Err-clause-touched g c = λ told. left_by_cut _ (g.D.Disk.state c.args.disk.disk) (g.D.Disk.state c.power_cut.new.self.disk) (c.power_cut.ensures.state told)

pub returns-in-Ok-clause-damaged : goal.returns-in-Ok-clause-damaged
returns-in-Ok-clause-damaged g c = λ told.
    damaged_left (g.D.Disk.state c.args.disk.disk) (g.D.Disk.state c.power_cut.new.self.disk) c.power_cut.result _ c.next_incarnation.result c.in-Ok.is
    (c.power_cut.ensures.state told) (c.next_incarnation.ensures.damaged told)
