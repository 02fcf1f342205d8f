use Rattle.std.proofs.Common.{◌≡◌, ◌<◌, ◌≤◌, ◌*◌, ◌-◌}
use Rattle.qs_world_plans.specs.Order.{seeded}
use Rattle.qs_world_sites.specs.Endings.{budget_of}
use Rattle.qs_world_sites.specs.Late.{RisesBy}
use Rattle.qs_world_sites.specs.Rounds.{Rounds}
use Rattle.qs_world_sites.specs.Sites.{Each, GoesOn, count_of}
use Rattle.qs_world_serial.proofs.rounds.rounds_of.Given as goal

abbrev pub invariant-loop-rounds : goal.invariant-loop-rounds
invariant-loop-rounds g l = record {
  made : Rounds g.D.Disk.told g.D.Disk.state g.D.Disk.fault_count g.D.Disk.byte_count (seeded l.seed) l.rounds l.initial.sites l.sites l.orders.rng;
  more : l.rounds < budget_of l.script l.sites;
  most : l.most ≤ budget_of l.script l.sites;
  turns : l.sites.turns ≡ l.initial.sites.turns;
  rises : Each {D = g.row.D.Denot} (RisesBy {D = g.row.D.Denot} (l.rounds * count_of l.initial.sites)) l.initial.sites.sites l.sites.sites;
  stays : Each {D = g.row.D.Denot} (GoesOn {D = g.row.D.Denot}) l.initial.sites.sites l.sites.sites;
}

abbrev pub decreases-loop-rounds : goal.decreases-loop-rounds
decreases-loop-rounds g l = 18446744073709551615 - l.rounds
