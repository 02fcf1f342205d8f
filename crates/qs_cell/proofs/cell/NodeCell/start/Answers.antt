use Rattle.std.proofs.Common.{subst, sym, ◌∙◌}
use Rattle.qs_disk.specs.Moments.{Keeps}
use Rattle.qs_log_start.specs.Incarnation.{IsTouched}
use Rattle.qs_cell.proofs.Standing.{started_of, started_moments, sound_started}
use Rattle.qs_cell.proofs.cell.NodeCell.start.Goals as goal

pub returns-in-Err-begin-clause-moments : goal.returns-in-Err-begin-clause-moments
returns-in-Err-begin-clause-moments g c = λ told.
    let s = (g.D.Disk.state c.args.disk.disk) in
    subst (λ d. Keeps (IsTouched s) s (g.D.Disk.state d.disk)) (sym c.in-Err-begin.ensures.disk) (c.in-Ok.ensures.moments told)

pub returns-in-Err-begin-clause-damaged : goal.returns-in-Err-begin-clause-damaged
returns-in-Err-begin-clause-damaged g c = λ told at is. absurd (cc (sym c.in-Err-begin.ensures.why ∙ is))

pub returns-in-Err-clause-kept : goal.returns-in-Err-clause-kept
returns-in-Err-clause-kept g c = λ told is. c.in-Err.ensures.kept told

pub returns-in-Err-begin-clause-kept : goal.returns-in-Err-begin-clause-kept
returns-in-Err-begin-clause-kept g c = λ told is. absurd (cc (sym c.in-Err-begin.ensures.why ∙ is))

pub returns-clause-started : goal.returns-clause-started
returns-clause-started g c =
    started_of g.D.Disk.told g.D.Disk.state c.args.alloc c.args.disk.disk c.args.setting c.args.links c.args.ends.items c.args.plan c.in-Ok.log c.in-Ok-begin.started.running
    c.in-Ok-begin.started.found c.own_faults-faults.result c.in-Ok-begin.ensures.begins c.in-Ok-begin.ensures.found c.in-Ok.ensures.raised c.in-Ok.ensures.armed c.in-Ok.ensures.stands

pub returns-clause-moments : goal.returns-clause-moments
returns-clause-moments g c = λ told.
    started_moments g.D.Disk.state (IsTouched (g.D.Disk.state c.args.disk.disk)) (g.D.Disk.state c.args.disk.disk) c.args.alloc c.args.setting c.args.plan.crashes
    c.args.plan.points c.in-Ok.log c.in-Ok-begin.started.running c.in-Ok-begin.ensures.begins (c.in-Ok.ensures.moments told)

pub invariant_of-result : goal.invariant_of-result
invariant_of-result g c =
    sound_started g.D.Disk.told g.D.Disk.state c.args.alloc c.args.setting c.args.plan.crashes c.args.plan.points c.in-Ok.log c.in-Ok-begin.started.running
    c.in-Ok-begin.started.found c.in-Ok-begin.ensures.begins c.in-Ok-begin.ensures.found c.in-Ok.ensures.waiting c.requires.batch c.requires.keep c.requires.nodes c.requires.node c.in-Ok.ensures.stands c.in-Ok.ensures.below
