use Rattle.std.proofs.Common.{◌∙◌, sym}
use Rattle.qs_node_host.proofs.Rooms.{full_is, same_told}
use Rattle.qs_node_host.proofs.appending.append_open.Goals as goal

pub returns-after-added-clause-full : goal.returns-after-added-clause-full
returns-after-added-clause-full g c = λ told.
    full_is (g.D.Disk.byte_count c.args.log.now.disk) c.args.log.now c.args.rec.now c.append.result c.append.ensures.full c.in-Err.fault c.in-Err.is
    (sym c.into.ensures ∙ same_told c.into.result _ told)
