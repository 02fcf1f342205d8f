use Rattle.std.proofs.Common.{◌≡◌, take, fold}
use Rattle.qs_log.specs.Log.{Stands}
use Rattle.qs_node_host.specs.Host.{AreUnended, with_record}
use Rattle.qs_node_host.proofs.appending.append_all.Given as goal

-- the records so far wait
abbrev pub invariant-loop-rec : goal.invariant-loop-rec
invariant-loop-rec g l = record {
  log : l.log ≡ fold with_record l.initial.log (take l.rec-index l.records);
  unended : AreUnended l.initial.unended l.initial.log → AreUnended l.unended l.log;
  disk : l.log.disk ≡ l.initial.log.disk;
  stands : g.D.Disk.told → Stands l.initial.log (g.D.Disk.state l.initial.log.disk) → Stands l.log (g.D.Disk.state l.log.disk);
}
