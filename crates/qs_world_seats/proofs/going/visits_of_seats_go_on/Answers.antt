use Rattle.qs_world_seats.proofs.Alike.{each_room, each_visit_begins}
use Rattle.qs_world_seats.proofs.Turning.{each_hearing, turn_by}
use Rattle.qs_world_seats.proofs.Visiting.{each_visit}
use Rattle.qs_world_seats.proofs.going.visits_of_seats_go_on.Goals as goal

pub returns : goal.returns
returns g c = record {
  hears = λ o n m old new clients. each_hearing g.D.Disk.told g.D.Disk.state g.D.Disk.fault_count g.D.Disk.byte_count o n m old new clients;
  turns = λ o n source ready ends new clients. turn_by g.D.Disk.told g.D.Disk.state g.D.Disk.fault_count g.D.Disk.byte_count o n clients source ready ends new;
  room = λ o n old ready ends clients. each_room g.D.Disk.told g.D.Disk.state o n old ready ends clients;
  begins = λ o n old begun ends clients. each_visit_begins g.D.Disk.told g.D.Disk.state o n old begun ends clients;
  visits = λ o n old new clients. each_visit g.D.Disk.told g.D.Disk.state g.D.Disk.fault_count g.D.Disk.byte_count o n old new clients;
}
