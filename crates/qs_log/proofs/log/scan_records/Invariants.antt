use Rattle.std.proofs.Common.{◌≡◌, take}
use Rattle.std.specs.List.{filter}
use Rattle.qs_log.specs.Log.{is_of}
use Rattle.qs_log.proofs.log.scan_records.Given as goal

abbrev pub invariant-loop-rec : goal.invariant-loop-rec
invariant-loop-rec l = l.found ≡ filter (is_of l.server.0) (take l.rec-index l.records)
