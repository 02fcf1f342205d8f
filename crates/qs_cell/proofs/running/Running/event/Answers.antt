use Rattle.std.proofs.Common.{◌∙◌, refl, sym}
use Rattle.qs_book_journal.specs.declared.entry.CrashCause.TheVariants as causes
use Rattle.qs_cell.specs.Cell.{out_of}
use Rattle.qs_cell.specs.Outcomes.{outcome_of}
use Rattle.qs_cell.specs.Within.{running_with}
use Rattle.qs_cell.proofs.Happening.{untouched, untouched_header}
use Rattle.qs_cell.proofs.Rooms.{moments_roomy, outcome_roomy, replaced_roomy}
use Rattle.qs_cell.proofs.running.Running.event.Goals as goal

pub returns-in-Ok-Some-clause-moments : goal.returns-in-Ok-Some-clause-moments
returns-in-Ok-Some-clause-moments g c = λ told.
    untouched (out_of (g.D.Disk.byte_count c.args.self.now.host.log.disk.disk) c.args.occasion c.args.self.now) c.args.self.now.host.log g.D.Disk.state c.args.self.now.host.log.disk refl (c.requires.stands told)

pub returns-in-Err-clause-moments : goal.returns-in-Err-clause-moments
returns-in-Err-clause-moments g c = λ told.
    untouched (out_of (g.D.Disk.byte_count c.args.self.now.host.log.disk.disk) c.args.occasion c.args.self.now) c.args.self.now.host.log g.D.Disk.state c.args.self.now.host.log.disk refl (c.requires.stands told)

pub returns-in-Ok-Some-clause-header : goal.returns-in-Ok-Some-clause-header
returns-in-Ok-Some-clause-header g c = λ told. untouched_header c.args.self.now.host.log g.D.Disk.state c.args.self.now.host.log.disk refl (c.requires.stands told)

pub returns-in-Err-clause-header : goal.returns-in-Err-clause-header
returns-in-Err-clause-header g c = λ told. untouched_header c.args.self.now.host.log g.D.Disk.state c.args.self.now.host.log.disk refl (c.requires.stands told)

-- ---- room

pub returns-in-Ok-None-clause-rooms : goal.returns-in-Ok-None-clause-rooms
returns-in-Ok-None-clause-rooms g c = λ keep roomy fresh.
    outcome_roomy keep (g.D.Disk.byte_count c.args.self.now.host.log.disk.disk) c.args.occasion c.args.self.now roomy fresh g.D.Disk.fault_count
    (outcome_of c.worked_out.result (running_with c.worked_out.new.host c.worked_out.new.sessions c.worked_out.new.carried))
    (c.worked_out.ensures.outcome c.args.self.now refl refl c.in-Ok-None.ensures.ok (sym c.in-Ok-None.ensures.cause ∙ c.in-Ok-None.field-0-is))

pub returns-in-Ok-Some-clause-rooms : goal.returns-in-Ok-Some-clause-rooms
returns-in-Ok-Some-clause-rooms g c = λ keep roomy fresh.
    replaced_roomy keep (g.D.Disk.byte_count c.args.self.now.host.log.disk.disk) c.replaced.result c.in-Ok-Some.cause
    (running_with {F = g.row.F.Denot} {X = g.row.X.Denot} c.args.self.now.host c.args.self.now.sessions c.replaced.new.carried) c.replaced.ensures.fate

pub returns-in-Err-clause-rooms : goal.returns-in-Err-clause-rooms
returns-in-Err-clause-rooms g c = λ keep roomy fresh.
    replaced_roomy keep (g.D.Disk.byte_count c.args.self.now.host.log.disk.disk) c.replaced-in-Err.result causes.Memory
    (running_with {F = g.row.F.Denot} {X = g.row.X.Denot} c.args.self.now.host c.args.self.now.sessions c.replaced-in-Err.new.carried) c.replaced-in-Err.ensures.fate

pub returns-in-Ok-None-clause-left : goal.returns-in-Ok-None-clause-left
returns-in-Ok-None-clause-left g c = λ told keep roomy fresh.
    moments_roomy keep (g.D.Disk.byte_count c.args.self.now.host.log.disk.disk) c.args.occasion c.args.self.now roomy fresh (g.D.Disk.state c.args.self.now.host.log.disk.disk)
    (g.D.Disk.state c.worked_out.new.host.log.disk.disk) (c.worked_out.ensures.moments told)

pub returns-in-Ok-Some-clause-left : goal.returns-in-Ok-Some-clause-left
returns-in-Ok-Some-clause-left g c = λ told keep roomy fresh.
    let s = (g.D.Disk.state c.args.self.now.host.log.disk.disk) in
    moments_roomy keep (g.D.Disk.byte_count c.args.self.now.host.log.disk.disk) c.args.occasion c.args.self.now roomy fresh s s
    (untouched (out_of (g.D.Disk.byte_count c.args.self.now.host.log.disk.disk) c.args.occasion c.args.self.now) c.args.self.now.host.log g.D.Disk.state c.args.self.now.host.log.disk refl (c.requires.stands told))

pub returns-in-Err-clause-left : goal.returns-in-Err-clause-left
returns-in-Err-clause-left g c = λ told keep roomy fresh.
    let s = (g.D.Disk.state c.args.self.now.host.log.disk.disk) in
    moments_roomy keep (g.D.Disk.byte_count c.args.self.now.host.log.disk.disk) c.args.occasion c.args.self.now roomy fresh s s
    (untouched (out_of (g.D.Disk.byte_count c.args.self.now.host.log.disk.disk) c.args.occasion c.args.self.now) c.args.self.now.host.log g.D.Disk.state c.args.self.now.host.log.disk refl (c.requires.stands told))
