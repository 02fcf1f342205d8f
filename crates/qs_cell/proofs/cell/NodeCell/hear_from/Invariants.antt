use Rattle.std.proofs.Common.{◌≡◌}
use Rattle.qs_cell.specs.Hearing.{HearsTimes}
use Rattle.qs_cell.specs.Joined.{HaveSameRings}
use Rattle.qs_cell.specs.Starts.{post_of}
use Rattle.qs_cell_peers.specs.Links.{StayLinked}
use Rattle.qs_cell.proofs.cell.NodeCell.hear_from.Given as goal

abbrev pub invariant-loop : goal.invariant-loop
invariant-loop g l = record {
  hears : HearsTimes g.D.Disk.told g.D.Disk.state g.D.Disk.fault_count g.D.Disk.byte_count l.from l.counter (post_of l.initial.self) (post_of l.self);
  linked : StayLinked l.initial.self.links l.self.links;
  opened : l.self.opened ≡ l.initial.self.opened;
  faults : l.self.faults ≡ l.initial.self.faults;
  rings : HaveSameRings l.initial.self.seat.ends l.self.seat.ends;
}
