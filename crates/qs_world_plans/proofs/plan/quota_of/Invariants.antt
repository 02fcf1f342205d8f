use Rattle.std.proofs.Common.{◌≡◌, drop}
use Rattle.qs_world_plans.specs.Plan.{quota_of}
use Rattle.qs_world_plans.proofs.plan.quota_of.Given as goal

abbrev pub invariant-loop-quota : goal.invariant-loop-quota
invariant-loop-quota l = quota_of l.node l.quotas ≡ quota_of l.node (drop l.quota-index l.quotas)
