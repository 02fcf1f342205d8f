use Rattle.qs_world_refine.proofs.RuleGoes.{voted_yes, covered, ignored}
use Rattle.qs_world_refine.proofs.rules.closers.Goals as goal

pub returns : goal.returns
returns c = record { voted_yes = voted_yes; covered = covered; ignored = ignored }
