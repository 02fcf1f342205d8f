use Rattle.std.proofs.Common.{◌≡◌}
use Rattle.qs_cell.specs.Hearing.{HearsBelow}
use Rattle.qs_cell.specs.Joined.{HaveSameRings}
use Rattle.qs_cell.specs.Starts.{post_of}
use Rattle.qs_cell_peers.specs.Links.{StayLinked}
use Rattle.qs_cell.proofs.cell.NodeCell.hear_all.Given as goal

abbrev pub invariant-loop-from : goal.invariant-loop-from
invariant-loop-from g l = record {
  hears : HearsBelow g.D.Disk.told g.D.Disk.state g.D.Disk.fault_count g.D.Disk.byte_count l.from (post_of l.initial.self) (post_of l.self);
  linked : StayLinked l.initial.self.links l.self.links;
  opened : l.self.opened ≡ l.initial.self.opened;
  faults : l.self.faults ≡ l.initial.self.faults;
  rings : HaveSameRings l.initial.self.seat.ends l.self.seat.ends;
}
