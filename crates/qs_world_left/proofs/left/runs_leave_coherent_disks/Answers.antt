use Rattle.qs_world_left.proofs.SitesLeave.{each_cut_leaves, each_ending_leaves, each_rounds_leave, each_sites_have_logs, each_sites_leave}
use Rattle.qs_world_left.proofs.left.runs_leave_coherent_disks.Goals as goal

pub returns : goal.returns
returns g c = record {
  sites = λ o plans sites. each_sites_leave g.D.Disk.told g.D.Disk.state o plans sites;
  logs = λ o plans sites. each_sites_have_logs g.D.Disk.told g.D.Disk.state o plans sites;
  rounds = λ alloc script disks rng later n all new. each_rounds_leave c.what_fits_may_begin.ensures.begins g.D.Disk.told g.D.Disk.state g.D.Disk.fault_count g.D.Disk.byte_count alloc script disks all rng n new later;
  ends = λ alloc script disks seed all new ending. each_ending_leaves c.what_fits_may_begin.ensures.begins g.D.Disk.told g.D.Disk.state g.D.Disk.fault_count g.D.Disk.byte_count alloc script disks all seed new ending;
  cut = λ alloc script disks seed node all new. each_cut_leaves c.what_fits_may_begin.ensures.begins g.D.Disk.told g.D.Disk.state g.D.Disk.fault_count g.D.Disk.byte_count alloc script disks all seed node new;
}
