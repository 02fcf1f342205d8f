use Rattle.qs_world_left.proofs.SitesStand.{each_cut_stands, each_ending_stands, each_rounds_stand, each_sites_stand}
use Rattle.qs_world_left.proofs.standing.runs_leave_standing_disks.Goals as goal

pub returns : goal.returns
returns g c = record {
  sites = λ o plans sites journal trace. each_sites_stand g.D.Disk.told g.D.Disk.state o plans sites journal trace;
  rounds = λ alloc script disks rng later n all new journal trace.
      each_rounds_stand c.what_fits_may_begin.ensures.begins g.D.Disk.told g.D.Disk.state g.D.Disk.fault_count g.D.Disk.byte_count alloc script disks all rng n new later journal trace;
  ends = λ alloc script disks seed all new ending journal trace.
      each_ending_stands c.what_fits_may_begin.ensures.begins g.D.Disk.told g.D.Disk.state g.D.Disk.fault_count g.D.Disk.byte_count alloc script disks all seed new ending journal trace;
  cut = λ alloc script disks seed node all new journal trace.
      each_cut_stands c.what_fits_may_begin.ensures.begins g.D.Disk.told g.D.Disk.state g.D.Disk.fault_count g.D.Disk.byte_count alloc script disks all seed node new journal trace;
}
