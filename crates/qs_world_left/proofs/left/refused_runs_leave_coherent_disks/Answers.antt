use Rattle.qs_world_left.proofs.SitesLeave.{each_cells_have_logs, each_cells_leave, each_refused_leaves}
use Rattle.qs_world_left.proofs.left.refused_runs_leave_coherent_disks.Goals as goal

pub returns : goal.returns
returns g c = record {
  cells = λ o plans sites. each_cells_leave g.D.Disk.told g.D.Disk.state o plans sites;
  logs = λ o plans sites. each_cells_have_logs g.D.Disk.told g.D.Disk.state o plans sites;
  refused = λ alloc script disks seed all new. each_refused_leaves c.what_fits_may_begin.ensures.begins g.D.Disk.told g.D.Disk.state g.D.Disk.fault_count g.D.Disk.byte_count alloc script disks all seed new;
}
