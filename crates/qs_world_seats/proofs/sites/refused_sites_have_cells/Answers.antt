use Rattle.qs_world_seats.proofs.Cellular.{each_cell_tells, each_site_cell}
use Rattle.qs_world_seats.proofs.Refused.{each_refused}
use Rattle.qs_world_seats.proofs.sites.refused_sites_have_cells.Goals as goal

pub returns : goal.returns
returns g c = record {
  refused = λ o n place old new. each_refused g.D.Disk.told g.D.Disk.state g.D.Disk.fault_count g.D.Disk.byte_count o n place old new;
  site = λ o n cast. each_site_cell g.D.Disk.told g.D.Disk.state o n cast;
  tells = λ o n node. each_cell_tells g.D.Disk.told g.D.Disk.state o n node;
}
