use Rattle.qs_world_seats.proofs.Carried.{each_carries}
use Rattle.qs_world_seats.proofs.ClientTurns.{each_client_turn}
use Rattle.qs_world_seats.proofs.lanes.lanes_go_on.Goals as goal

pub returns : goal.returns
returns g c = record {
  carries = λ o n old new befores afters. each_carries g.D.Disk.told g.D.Disk.state o n old new befores afters;
  clients = λ o n cell clients new at did. each_client_turn g.D.Disk.told g.D.Disk.state o n cell clients new at did;
}
