use Rattle.std.proofs.Common.{subst, sym}
use Rattle.qs_cell.specs.State.{disk_of}
use Rattle.qs_disk.specs.Moments.{Keeps}
use Rattle.qs_log_start.specs.Incarnation.{IsTouched}
use Rattle.qs_world_rounds.proofs.seating.start_at.Goals as goal

pub returns-in-Err-clause-damaged : goal.returns-in-Err-clause-damaged
returns-in-Err-clause-damaged g c = λ told at is. absurd (cc is)

pub returns-in-Err-clause-kept : goal.returns-in-Err-clause-kept
returns-in-Err-clause-kept g c = λ told is. absurd (cc is)

pub returns-in-Ok-start-clause-moments : goal.returns-in-Ok-start-clause-moments
returns-in-Ok-start-clause-moments g c = λ told.
    let s = (g.D.Disk.state c.args.disk.disk) in
    subst (λ cast. Keeps (IsTouched s) s (g.D.Disk.state (disk_of cast.node.seat.node).disk)) (sym c.new.ensures) (c.in-Ok-start.ensures.moments told)
