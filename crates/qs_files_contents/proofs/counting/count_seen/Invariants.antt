use Rattle.std.proofs.Common.{take}
use Rattle.qs_files_contents.proofs.Counted.{IsCountedOf}
use Rattle.qs_files_contents.proofs.counting.count_seen.Given as goal

abbrev pub invariant-loop-change : goal.invariant-loop-change
invariant-loop-change l = IsCountedOf l.tid l.names (take l.change-index l.changes) l.count
