use Rattle.qs_world_nodes.proofs.Keeping.{each_cells}
use Rattle.qs_world_nodes.proofs.Refused.{each_refused}
use Rattle.qs_world_nodes.proofs.Telling.{each_cells_traced}
use Rattle.qs_world_nodes.proofs.running.refused_rounds_leave_cells.Goals as goal

pub returns : goal.returns
returns g c = record {
  sites = λ o plans sites. each_cells g.D.Disk.told g.D.Disk.state o plans sites;
  refused = λ o plans order old new. each_refused g.D.Disk.told g.D.Disk.state g.D.Disk.fault_count g.D.Disk.byte_count o plans order old new;
  traced = λ o plans sites. each_cells_traced g.D.Disk.told g.D.Disk.state o plans sites;
}
