use Rattle.std.proofs.Common.{subst, sym, take}
use Rattle.qs_link.specs.Plan.{IsPlan}
use Rattle.qs_world_sites.proofs.Planning.{between_plans}
use Rattle.qs_world_sites.proofs.planned.plan_between.Goals as goal

pub returns-clause-plan : goal.returns-clause-plan
returns-clause-plan c = subst IsPlan (sym c.loop-line.invariant) (between_plans c.args.from c.args.to (take c.loop-line.line-index c.args.lines.now))
