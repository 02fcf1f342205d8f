use Rattle.std.proofs.Common.{◌≡◌, take}
use Rattle.std.specs.List.{flat_map}
use Rattle.qs_world_plans.specs.Plan.{crash_in}
use Rattle.qs_world_plans.proofs.plan.crashes_of.Given as goal

abbrev pub invariant-loop-line : goal.invariant-loop-line
invariant-loop-line l = l.events ≡ flat_map (λ line. crash_in l.node line.fault) (take l.line-index l.lines)
