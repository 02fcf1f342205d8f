use Rattle.std.proofs.Common.{rules}
use Rattle.qs_node_host.proofs.Rooms.{worked_roomy}
use Rattle.qs_node_host.proofs.host.Host.work_out.Goals as goal

pub returns-clause-room : goal.returns-clause-room
returns-clause-room g c = λ keep roomy fresh.
    worked_roomy keep (g.D.Disk.byte_count c.args.self.now.log.disk) c.args.self.now _ c.args.event c.in_ok-out.out roomy fresh (search rules) (search rules) (search rules)
