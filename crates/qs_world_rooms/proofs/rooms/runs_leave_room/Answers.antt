use Rattle.qs_world_rooms.proofs.Runs.{each_cut_leaves, each_ending_leaves, each_refused_leaves, each_rounds_leave}
use Rattle.qs_world_rooms.proofs.rooms.runs_leave_room.Goals as goal

pub returns : goal.returns
returns g c = record {
  rounds = λ alloc script disks rng later n all new. each_rounds_leave c.what_fits_may_begin.ensures.begins g.D.Disk.told g.D.Disk.state g.D.Disk.fault_count g.D.Disk.byte_count alloc script disks all rng n new later;
  ends = λ alloc script disks seed all new ending. each_ending_leaves c.what_fits_may_begin.ensures.begins g.D.Disk.told g.D.Disk.state g.D.Disk.fault_count g.D.Disk.byte_count alloc script disks all seed new ending;
  cut = λ alloc script disks seed node all new. each_cut_leaves c.what_fits_may_begin.ensures.begins g.D.Disk.told g.D.Disk.state g.D.Disk.fault_count g.D.Disk.byte_count alloc script disks all seed node new;
  refused = λ alloc script disks seed all new. each_refused_leaves c.what_fits_may_begin.ensures.begins g.D.Disk.told g.D.Disk.state g.D.Disk.fault_count g.D.Disk.byte_count alloc script disks all seed new;
}
