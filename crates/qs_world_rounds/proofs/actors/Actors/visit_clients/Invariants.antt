use Rattle.std.proofs.Common.{◌≡◌, length, map, suc}
use Rattle.qs_world_rounds.specs.Rounds.{VisitAll}
use Rattle.qs_world_plans.specs.Order.{places_below}
use Rattle.qs_world_rounds.proofs.actors.Actors.visit_clients.Given as goal

abbrev pub invariant-loop-at : goal.invariant-loop-at
invariant-loop-at g l = record {
  visits : VisitAll g.D.Disk.told g.D.Disk.state g.D.Disk.fault_count g.D.Disk.byte_count (map suc (places_below l.at)) l.initial.self l.self l.did;
  node : l.self.node ≡ l.initial.self.node;
  count : length l.self.clients ≡ length l.initial.self.clients;
}
