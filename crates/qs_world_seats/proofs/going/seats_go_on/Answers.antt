use Rattle.qs_world_seats.proofs.Reaching.{each_event, each_restart}
use Rattle.qs_world_seats.proofs.Starting.{each_seat_begins, each_tells}
use Rattle.qs_world_seats.proofs.going.seats_go_on.Goals as goal

pub returns : goal.returns
returns g c = record {
  events = λ o n source occasion sessions old new ends clients answers. each_event g.D.Disk.told g.D.Disk.state g.D.Disk.fault_count g.D.Disk.byte_count o n source occasion sessions old new ends clients answers;
  begins = λ o n alloc given crashes points log new ends clients. each_seat_begins g.D.Disk.told g.D.Disk.state o n alloc given crashes points log new ends clients;
  tells = λ o n node ends clients. each_tells g.D.Disk.told g.D.Disk.state o n node ends clients;
  restarts = λ alloc o n old new ends clients answer. each_restart g.D.Disk.told g.D.Disk.state g.D.Disk.fault_count g.D.Disk.byte_count alloc o n old new ends clients answer;
}
