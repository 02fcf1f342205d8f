use Rattle.std.proofs.Common.{◌≡◌, take}
use Rattle.qs_world_sites.specs.Seats.{plan_between}
use Rattle.qs_world_sites.proofs.planned.plan_between.Given as goal

abbrev pub invariant-loop-line : goal.invariant-loop-line
invariant-loop-line l = l.plan ≡ plan_between l.from l.to (take l.line-index l.lines)
