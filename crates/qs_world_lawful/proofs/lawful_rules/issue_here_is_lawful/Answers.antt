use Rattle.qs_world_lawful.proofs.IssuingHere.{by_issue_here}
use Rattle.qs_world_lawful.proofs.lawful_rules.issue_here_is_lawful.Goals as goal

pub returns : goal.returns
returns c = by_issue_here
