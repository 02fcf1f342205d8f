use Rattle.qs_world_refine.proofs.RuleGoes.{issue_here, owner_asks}
use Rattle.qs_world_refine.proofs.rules.commands.Goals as goal

pub returns : goal.returns
returns c = record { issue_here = issue_here; owner_asks = owner_asks }
