use Rattle.qs_node_host.proofs.Rooms.{refused_full}
use Rattle.qs_node_host.proofs.appending.append_end.Goals as goal

pub returns-in_err-append-clause-full : goal.returns-in_err-append-clause-full
returns-in_err-append-clause-full g c =
    refused_full (g.D.Disk.byte_count c.args.log.now.disk) c.args.log.now c.args.rec.now c.append.result c.in_err-append.field-0.0 c.from_residual.result c.append.ensures.full
    c.in_err-append.was c.from_residual.ensures.1
