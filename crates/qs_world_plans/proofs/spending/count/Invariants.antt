use Rattle.std.proofs.Common.{◌≡◌, ◌≤◌, take}
use Rattle.std.specs.List.{count_by}
use Rattle.qs_world_plans.specs.Budget.{tells_disk_crash}
use Rattle.qs_world_plans.proofs.spending.count.Given as goal

abbrev pub invariant-loop-entry : goal.invariant-loop-entry
invariant-loop-entry l = record {
  counted : l.count ≡ count_by tells_disk_crash (take l.entry-index l.journal);
  low : l.count ≤ l.entry-index;
}
