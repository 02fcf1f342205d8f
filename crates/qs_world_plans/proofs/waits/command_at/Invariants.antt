use Rattle.std.proofs.Common.{◌≡◌, drop, slice_get}
use Rattle.qs_world_plans.specs.Plan.{commands_of}
use Rattle.qs_world_plans.proofs.waits.command_at.Given as goal

abbrev pub invariant-loop-line : goal.invariant-loop-line
invariant-loop-line l = slice_get (commands_of l.client l.lines) l.place ≡ slice_get (commands_of l.client (drop l.line-index l.lines)) l.before
