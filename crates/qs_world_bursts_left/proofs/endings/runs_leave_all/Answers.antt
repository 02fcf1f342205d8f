use Rattle.qs_world_bursts_left.proofs.Ended.{each_cut_leaves, each_ending_leaves, each_refused_leaves}
use Rattle.qs_world_bursts_left.proofs.endings.runs_leave_all.Goals as goal

pub returns : goal.returns
returns g c = record {
  ends = λ alloc script disks schedule all new ending. each_ending_leaves c.what_fits_may_begin.ensures.begins c.journals_are_lawful.ensures g.D.Disk.told g.D.Disk.state g.D.Disk.fault_count g.D.Disk.byte_count alloc script disks schedule all new ending;
  cut = λ alloc script disks schedule node all new. each_cut_leaves c.what_fits_may_begin.ensures.begins c.journals_are_lawful.ensures g.D.Disk.told g.D.Disk.state g.D.Disk.fault_count g.D.Disk.byte_count alloc script disks schedule all new node;
  refused = λ alloc script disks schedule all new. each_refused_leaves c.what_fits_may_begin.ensures.begins c.journals_are_lawful.ensures g.D.Disk.told g.D.Disk.state g.D.Disk.fault_count g.D.Disk.byte_count alloc script disks schedule all new;
}
