use Rattle.std.proofs.Common.{◌≡◌, ◌++◌, take}
use Rattle.qs_restart.proofs.recovering.add_each.Given as goal

abbrev pub invariant-loop-change : goal.invariant-loop-change
invariant-loop-change l = l.changes ≡ l.initial.changes ++ take l.change-index l.more
