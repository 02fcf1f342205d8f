use Rattle.qs_world_bursts_left.proofs.Rooms.{each_rounds_behind_leave}
use Rattle.qs_world_bursts_left.proofs.bursts.rounds_behind_bursts_leave_room.Goals as goal

pub returns : goal.returns
returns g c alloc script disks turns n all new = each_rounds_behind_leave c.what_fits_may_begin.ensures.begins g.D.Disk.told g.D.Disk.state g.D.Disk.fault_count g.D.Disk.byte_count alloc script disks turns n all new
