use Rattle.std.proofs.Common.{◌≤◌, ℕ, Err, sym, ap, subst}
use Rattle.qs_disk.specs.Disk.{IsSize}
use Rattle.qs_log.specs.Image.{half}
use Rattle.qs_log.proofs.Holding.{kept_opened, opened_stands, back_none}
use Rattle.qs_log.proofs.log.Log.open.Goals as goal

pub invariant_of-result : goal.invariant_of-result
invariant_of-result g c =
    kept_opened c.args.limit (g.D.Disk.byte_count c.read_log.new.disk) c.in-Ok.field-0.slots c.in-Ok.field-0.records c.len-forced.result c.new.result c.in-Ok.field-0.used
    c.in-Ok.ensures.below (subst (λ (n : ℕ). c.in-Ok.field-0.used ≤ half n) (sym c.read_log.ensures.size) c.in-Ok.ensures.within)
    (subst IsSize (sym c.read_log.ensures.size) c.in-Ok.ensures.allowed) c.len-forced.ensures c.new.ensures

pub returns-in-Ok-clause-stands : goal.returns-in-Ok-clause-stands
returns-in-Ok-clause-stands g c = λ told.
    opened_stands c.read_log.new.disk c.in-Ok.field-0.slots c.in-Ok.field-0.records c.len-forced.result c.in-Ok.field-0.used (g.D.Disk.state c.args.disk) (g.D.Disk.state c.read_log.new.disk)
    (c.read_log.ensures.content told) (c.in-Ok.ensures.still told) (c.in-Ok.ensures.holds told) (c.in-Ok.ensures.log told) c.len-forced.ensures

pub returns-in-Ok-clause-waiting : goal.returns-in-Ok-clause-waiting
returns-in-Ok-clause-waiting g c = back_none c.in-Ok.field-0.records c.len-forced.result c.len-forced.ensures

pub returns-in-Err-clause-damaged : goal.returns-in-Err-clause-damaged
returns-in-Err-clause-damaged g c = λ told at e. c.in-Err.ensures.damaged told at (ap Err e)
