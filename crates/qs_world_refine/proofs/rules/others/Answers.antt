use Rattle.qs_world_refine.proofs.RuleGoes.{foreign}
use Rattle.qs_world_refine.proofs.rules.others.Goals as goal

pub returns : goal.returns
returns c = record { foreign = foreign }
