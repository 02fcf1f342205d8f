use Rattle.qs_world_bursts.proofs.Leaving.{each_refused_burst}
use Rattle.qs_world_bursts.proofs.threads.refused_bursts_leave_cells.Goals as goal

pub returns : goal.returns
returns g c = λ o plans turns old new. each_refused_burst g.D.Disk.told g.D.Disk.state g.D.Disk.fault_count g.D.Disk.byte_count o plans turns old new
