use Rattle.qs_world_refine.proofs.PassGoes.{pass_rule_goes}
use Rattle.qs_world_refine.proofs.steps.passes.Goals as goal

pub returns : goal.returns
returns c = record { pass = pass_rule_goes }
