use Rattle.qs_world_bursts_left.proofs.Rooms.{each_burst_roomy, each_refused_burst_roomy, each_round_behind_roomy, each_rounds_behind_roomy}
use Rattle.qs_world_bursts_left.proofs.bursts.bursts_stay_roomy.Goals as goal

pub returns : goal.returns
returns g c = record {
  burst = λ o plans began turns old mid new. each_burst_roomy g.D.Disk.told g.D.Disk.state g.D.Disk.fault_count g.D.Disk.byte_count o plans began turns old mid new;
  refused = λ o plans began turns old new. each_refused_burst_roomy g.D.Disk.told g.D.Disk.state g.D.Disk.fault_count g.D.Disk.byte_count o plans began turns old new;
  round = λ o plans began turns order old new quiet. each_round_behind_roomy g.D.Disk.told g.D.Disk.state g.D.Disk.fault_count g.D.Disk.byte_count o plans began turns order old new quiet;
  rounds = λ o plans began turns n old new. each_rounds_behind_roomy g.D.Disk.told g.D.Disk.state g.D.Disk.fault_count g.D.Disk.byte_count o plans began turns n old new;
}
