use Rattle.std.proofs.Common.{◌≡◌, ◌<◌, [], take}
use Rattle.qs_base.specs.declared.identifiers.ClientNo.{ClientNo}
use Rattle.qs_world_plans.specs.Plan.{commands_of}
use Rattle.qs_world_plans.proofs.waits.highest_client.Given as goal

abbrev pub invariant-loop-line : goal.invariant-loop-line
invariant-loop-line l = (client : ClientNo) → l.highest < client.0 → commands_of client (take l.line-index l.lines) ≡ []
