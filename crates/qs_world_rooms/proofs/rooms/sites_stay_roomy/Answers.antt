use Rattle.qs_world_rooms.proofs.Sites.{each_broken, each_carried, each_refused, each_round, each_rounds, each_visit, each_visits}
use Rattle.qs_world_rooms.proofs.rooms.sites_stay_roomy.Goals as goal

pub returns : goal.returns
returns g c = record {
  carries = λ began old new. each_carried g.D.Disk.state g.D.Disk.byte_count began old new;
  visit = λ o plans began place old new did. each_visit g.D.Disk.told g.D.Disk.state g.D.Disk.fault_count g.D.Disk.byte_count o plans began place old new did;
  visits = λ o plans began places old new did. each_visits g.D.Disk.told g.D.Disk.state g.D.Disk.fault_count g.D.Disk.byte_count o plans began places old new did;
  round = λ o plans began order old new quiet. each_round g.D.Disk.told g.D.Disk.state g.D.Disk.fault_count g.D.Disk.byte_count o plans began order old new quiet;
  rounds = λ o plans began rng later n old new. each_rounds g.D.Disk.told g.D.Disk.state g.D.Disk.fault_count g.D.Disk.byte_count o plans began rng n old new later;
  broken = λ o plans began order node old new. each_broken g.D.Disk.told g.D.Disk.state g.D.Disk.fault_count g.D.Disk.byte_count o plans began order node old new;
  refused = λ o plans began order old new. each_refused g.D.Disk.told g.D.Disk.state g.D.Disk.fault_count g.D.Disk.byte_count o plans began order old new;
}
