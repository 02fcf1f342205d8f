use Rattle.std.proofs.Common.{ap, refl}
use Rattle.qs_cell.proofs.Leaving.{left_begins, seen_is}
use Rattle.qs_cell.proofs.stopped.begin_incarnation.Goals as goal

pub returns-in-Err-open-clause-begins : goal.returns-in-Err-open-clause-begins
returns-in-Err-open-clause-begins g c =
    left_begins g.D.Disk.fault_count c.args.alloc c.args.log c.args.rest (record { kept = c.in-Err-open.back.kept; cause = c.args.rest.cause; is_full = c.args.rest.is_full; carried = c.read.new.carried })
    c.args.before c.in-Err-open.back.log c.without_memory-in-Err-open.result c.in-Err-open.ensures.log c.in-Err-open.ensures.kept refl refl
    c.read.ensures.setting
    (seen_is c.read.new.carried c.args.rest.carried c.read.ensures.told c.read.ensures.commands c.read.ensures.crashes
    (ap (λ points. points.items) c.read.ensures.points)) c.without_memory-in-Err-open.ensures
