use Rattle.std.proofs.Common.{◌≡◌, take}
use Rattle.qs_cell.specs.Joined.{HaveSameRings}
use Rattle.qs_cell.specs.Visits.{TurnsAll, sources_of}
use Rattle.qs_cell.proofs.cell.NodeCell.turn_all.Given as goal

abbrev pub invariant-loop-place : goal.invariant-loop-place
invariant-loop-place g l = record {
  turns : TurnsAll g.D.Disk.told g.D.Disk.state g.D.Disk.fault_count g.D.Disk.byte_count (take l.place (sources_of l.initial.self.seat.ends)) l.initial.self.seat l.self.seat;
  links : l.self.links ≡ l.initial.self.links;
  opened : l.self.opened ≡ l.initial.self.opened;
  faults : l.self.faults ≡ l.initial.self.faults;
  rings : HaveSameRings l.initial.self.seat.ends l.self.seat.ends;
}
