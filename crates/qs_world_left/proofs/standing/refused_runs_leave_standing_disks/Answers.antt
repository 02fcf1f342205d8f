use Rattle.qs_world_left.proofs.SitesStand.{each_cells_stand, each_refused_stands}
use Rattle.qs_world_left.proofs.standing.refused_runs_leave_standing_disks.Goals as goal

pub returns : goal.returns
returns g c = record {
  cells = λ o plans sites journal trace. each_cells_stand g.D.Disk.told g.D.Disk.state o plans sites journal trace;
  refused = λ alloc script disks seed all new journal trace.
      each_refused_stands c.what_fits_may_begin.ensures.begins g.D.Disk.told g.D.Disk.state g.D.Disk.fault_count g.D.Disk.byte_count alloc script disks all seed new journal trace;
}
