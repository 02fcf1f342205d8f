use Rattle.std.proofs.Common.{ap}
use Rattle.qs_node_host.proofs.Rooms.{opens_roomy}
use Rattle.qs_node_host.proofs.host.Host.open.Goals as goal

pub returns-in-Ok-new-2-clause-roomy : goal.returns-in-Ok-new-2-clause-roomy
returns-in-Ok-new-2-clause-roomy g c = λ keep opens.
    opens_roomy c.args.alloc keep (g.D.Disk.byte_count c.args.log.disk) c.args.setting c.args.kept c.args.found c.args.log c.in-Ok-new.logged.value.log c.in-Ok-new-2.node
    c.in-Ok-new-2.ensures.ok c.requires.found (ap (λ logged. logged.log) c.in-Ok-new.ensures.ok) opens
