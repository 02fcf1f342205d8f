use Rattle.qs_cell.specs.Starts.{journal_of}
use Rattle.qs_cell.specs.Visits.{Grows}
use Rattle.qs_cell_peers.specs.Links.{StayLinked}
use Rattle.qs_world_rounds.specs.Rounds.{IsSameStart}
use Rattle.qs_world_rounds.specs.Turns.{TakesTurns}
use Rattle.qs_world_rounds.proofs.actors.Actors.take_turns.Given as goal

abbrev pub invariant-loop : goal.invariant-loop
invariant-loop g l = record {
  turns : TakesTurns g.D.Disk.told g.D.Disk.state g.D.Disk.fault_count g.D.Disk.byte_count l.counter l.initial.self l.self;
  start : IsSameStart l.initial.self.node l.self.node;
  grows : Grows (journal_of l.initial.self.node) (journal_of l.self.node);
  linked : StayLinked l.initial.self.node.links l.self.node.links;
}
