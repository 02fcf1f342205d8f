use Rattle.std.proofs.Common.{◌≡◌, ◌≤◌, take}
use Rattle.std.specs.List.{count_by}
use Rattle.qs_world_plans.specs.Waiting.{answers}
use Rattle.qs_world_plans.proofs.waits.answered_of.Given as goal

abbrev pub invariant-loop-entry : goal.invariant-loop-entry
invariant-loop-entry l = record {
  counted : l.count ≡ count_by (answers l.client) (take l.entry-index l.journal);
  low : l.count ≤ l.entry-index;
}
