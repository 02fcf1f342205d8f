use Rattle.qs_world_nodes.proofs.Carrying.{each_carries}
use Rattle.qs_world_nodes.proofs.Rounds.{each_broken, each_round, each_rounds, each_visits}
use Rattle.qs_world_nodes.proofs.Visiting.{each_visit}
use Rattle.qs_world_nodes.proofs.running.nodes_go_on.Goals as goal

pub returns : goal.returns
returns g c = record {
  carries = λ o plans old new. each_carries g.D.Disk.told g.D.Disk.state o plans old new;
  visit = λ o plans place old new did. each_visit g.D.Disk.told g.D.Disk.state g.D.Disk.fault_count g.D.Disk.byte_count o plans place old new did;
  visits = λ o plans places old new did. each_visits g.D.Disk.told g.D.Disk.state g.D.Disk.fault_count g.D.Disk.byte_count o plans places old new did;
  round = λ o plans order old new quiet. each_round g.D.Disk.told g.D.Disk.state g.D.Disk.fault_count g.D.Disk.byte_count o plans order old new quiet;
  rounds = λ o plans rng later n old new. each_rounds g.D.Disk.told g.D.Disk.state g.D.Disk.fault_count g.D.Disk.byte_count o plans rng n old new later;
  broken = λ o plans order node old new. each_broken g.D.Disk.told g.D.Disk.state g.D.Disk.fault_count g.D.Disk.byte_count o plans order node old new;
}
