use Rattle.std.proofs.Common.{◌≡◌, ◌≤◌, take}
use Rattle.std.specs.List.{fold}
use Rattle.qs_world_sites.specs.Endings.{add_crashes}
use Rattle.qs_world_serial.proofs.rounds.crashes_of.Given as goal

abbrev pub invariant-loop-site : goal.invariant-loop-site
invariant-loop-site g l = record {
  summed : l.crashes ≡ fold (add_crashes {D = g.row.D.Denot}) 0 (take l.site-index l.sites);
  low : l.crashes ≤ 64;
}
