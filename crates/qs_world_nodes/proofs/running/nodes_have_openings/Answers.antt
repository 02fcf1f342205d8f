use Rattle.qs_world_nodes.proofs.Opened.{each_opening}
use Rattle.qs_world_nodes.proofs.Sitting.{each_sits_once}
use Rattle.qs_world_nodes.proofs.running.nodes_have_openings.Goals as goal

pub returns : goal.returns
returns g c = record {
  opens = λ alloc script disks all. each_opening g.D.Disk.told g.D.Disk.state g.D.Disk.fault_count alloc script disks all;
  read = λ nodes text script. each_sits_once nodes text script;
}
