use Rattle.qs_world_bursts.proofs.Bursting.{each_burst, each_round_behind}
use Rattle.qs_world_bursts.proofs.Turning.{each_turn}
use Rattle.qs_world_bursts.proofs.threads.bursts_go_on.Goals as goal

pub returns : goal.returns
returns g c = record {
  turn = λ o n old new. each_turn g.D.Disk.told g.D.Disk.state g.D.Disk.fault_count g.D.Disk.byte_count o n old new;
  burst = λ o plans turns old mid new. each_burst g.D.Disk.told g.D.Disk.state g.D.Disk.fault_count g.D.Disk.byte_count o plans turns old mid new;
  round = λ o plans turns order old new quiet. each_round_behind g.D.Disk.told g.D.Disk.state g.D.Disk.fault_count g.D.Disk.byte_count o plans turns order old new quiet;
}
