use Rattle.std.proofs.Common.{take}
use Rattle.qs_world_sites.specs.Late.{RisesBy}
use Rattle.qs_world_sites.specs.Rounds.{VisitAll}
use Rattle.qs_world_sites.specs.Sites.{Each, GoesOn}
use Rattle.qs_world_sites.proofs.sites.Sites.visit_all.Given as goal

abbrev pub invariant-loop-place : goal.invariant-loop-place
invariant-loop-place g l = record {
  visits : VisitAll g.D.Disk.told g.D.Disk.state g.D.Disk.fault_count g.D.Disk.byte_count (take l.place-index l.order) l.initial.self l.self l.did;
  rises : Each {D = g.row.D.Denot} (RisesBy {D = g.row.D.Denot} l.place-index) l.initial.self.sites l.self.sites;
  stays : Each {D = g.row.D.Denot} (GoesOn {D = g.row.D.Denot}) l.initial.self.sites l.self.sites;
}
