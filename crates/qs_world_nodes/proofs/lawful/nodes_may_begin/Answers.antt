use Rattle.qs_world_nodes.proofs.Histories.{each_may_begin}
use Rattle.qs_world_nodes.proofs.lawful.nodes_may_begin.Goals as goal

pub returns : goal.returns
returns g c = λ alloc script disks all. each_may_begin c.what_fits_may_begin.ensures.begins g.D.Disk.told g.D.Disk.state g.D.Disk.fault_count alloc script disks all
