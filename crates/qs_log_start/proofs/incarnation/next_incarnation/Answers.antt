use Rattle.qs_disk.specs.FuseLaws.{goes_further}
use Rattle.qs_log.specs.Log.{disk_of as log_disk}
use Rattle.qs_log_start.proofs.Beginning.{raised_if, waiting_if, not_damaged, raise_touches, opened_touches, unraised_if, unopened_leaves, raised_below}
use Rattle.qs_log_start.proofs.incarnation.next_incarnation.Goals as goal

pub returns-in-Ok-clause-raised : goal.returns-in-Ok-clause-raised
returns-in-Ok-clause-raised g c = λ told.
    raised_if c.args.limit c.in-Ok.log c.raise.result (g.D.Disk.state c.args.disk.disk) (g.D.Disk.state c.in-Ok.log.disk.disk) (c.in-Ok.ensures.stands told)
    (c.in-Ok.ensures.content told) (c.in-Ok.ensures.says told) c.in-Ok.ensures.waiting c.raise.ensures.raised c.raise.ensures.same

pub returns-in-Ok-clause-moments : goal.returns-in-Ok-clause-moments
returns-in-Ok-clause-moments g c = λ told.
    raise_touches c.in-Ok.log (g.D.Disk.state c.args.disk.disk) (g.D.Disk.state c.in-Ok.log.disk.disk) _ (c.in-Ok.ensures.stands told)
    (c.in-Ok.ensures.content told) (c.in-Ok.ensures.moments told) (c.raise.ensures.moments told) (c.raise.ensures.below told)

pub returns-in-Err-clause-moments : goal.returns-in-Err-clause-moments
returns-in-Err-clause-moments g c = λ told. opened_touches (g.D.Disk.state c.args.disk.disk) _ (c.in-Err.ensures.moments told)

pub returns-in-Ok-clause-waiting : goal.returns-in-Ok-clause-waiting
returns-in-Ok-clause-waiting g c = waiting_if c.in-Ok.log c.raise.result c.in-Ok.ensures.waiting c.raise.ensures.same

pub returns-in-Ok-clause-damaged : goal.returns-in-Ok-clause-damaged
returns-in-Ok-clause-damaged g c = λ told. not_damaged _ c.raise.result c.raise.ensures.failed

pub returns-in-Ok-clause-goes : goal.returns-in-Ok-clause-goes
returns-in-Ok-clause-goes g c = goes_further c.args.disk.fuse c.in-Ok.log.disk.fuse (log_disk c.raise.result).fuse c.in-Ok.ensures.leads c.raise.ensures.goes

pub returns-in-Ok-clause-kept : goal.returns-in-Ok-clause-kept
returns-in-Ok-clause-kept g c = λ told.
    unraised_if g.D.Disk.state (g.D.Disk.state c.args.disk.disk) (g.D.Disk.state c.in-Ok.log.disk.disk) c.raise.result (c.in-Ok.ensures.content told) (c.raise.ensures.kept told)

pub returns-in-Err-clause-kept : goal.returns-in-Err-clause-kept
returns-in-Err-clause-kept g c = λ told. unopened_leaves (g.D.Disk.state c.args.disk.disk) (g.D.Disk.state c.in-Err.back.disk.disk) (c.in-Err.ensures.image told)

pub returns-in-Ok-clause-below : goal.returns-in-Ok-clause-below
returns-in-Ok-clause-below g c = λ told.
    raised_below c.args.limit c.in-Ok.log g.D.Disk.state (g.D.Disk.state c.args.disk.disk) (g.D.Disk.state c.in-Ok.log.disk.disk) c.raise.result
    c.requires.some (c.in-Ok.ensures.content told) (c.in-Ok.ensures.says told) (c.raise.ensures.below told)
