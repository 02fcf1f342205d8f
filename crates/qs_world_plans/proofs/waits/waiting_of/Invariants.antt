use Rattle.std.proofs.Common.{◌≡◌}
use Rattle.qs_world_plans.specs.Waiting.{waiting_below}
use Rattle.qs_world_plans.proofs.waits.waiting_of.Given as goal

abbrev pub invariant-loop-number : goal.invariant-loop-number
invariant-loop-number l = l.waiting ≡ waiting_below l.script l.journal l.number
