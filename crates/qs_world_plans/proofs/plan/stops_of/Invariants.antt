use Rattle.std.proofs.Common.{◌≡◌, take}
use Rattle.std.specs.List.{flat_map}
use Rattle.qs_world_plans.specs.Plan.{stop_in}
use Rattle.qs_world_plans.proofs.plan.stops_of.Given as goal

abbrev pub invariant-loop-line : goal.invariant-loop-line
invariant-loop-line l = l.calls ≡ flat_map (λ line. stop_in l.node line.fault) (take l.line-index l.lines)
