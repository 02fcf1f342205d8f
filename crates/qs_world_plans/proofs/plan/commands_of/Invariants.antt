use Rattle.std.proofs.Common.{◌≡◌, take}
use Rattle.std.specs.List.{flat_map}
use Rattle.qs_world_plans.specs.Plan.{line_of}
use Rattle.qs_world_plans.proofs.plan.commands_of.Given as goal

abbrev pub invariant-loop-line : goal.invariant-loop-line
invariant-loop-line l = l.commands ≡ flat_map (line_of l.client) (take l.line-index l.lines)
