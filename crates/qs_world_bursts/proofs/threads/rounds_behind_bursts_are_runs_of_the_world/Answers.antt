use Rattle.qs_world_bursts.proofs.Bursting.{each_rounds_behind_traced}
use Rattle.qs_world_bursts.proofs.threads.rounds_behind_bursts_are_runs_of_the_world.Goals as goal

pub returns : goal.returns
returns g c = λ alloc script disks o turns n all new. each_rounds_behind_traced g.D.Disk.told g.D.Disk.state g.D.Disk.fault_count g.D.Disk.byte_count alloc script disks o turns n all new
