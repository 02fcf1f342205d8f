use Rattle.qs_world_nodes.proofs.Beginning.{each_begins}
use Rattle.qs_world_nodes.proofs.running.nodes_begin.Goals as goal

pub returns : goal.returns
returns g c = λ alloc script disks all o. each_begins g.D.Disk.told g.D.Disk.state g.D.Disk.fault_count alloc script disks all o
