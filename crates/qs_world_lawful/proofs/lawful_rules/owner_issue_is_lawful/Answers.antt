use Rattle.qs_world_lawful.proofs.IssuingByRules.{by_owner}
use Rattle.qs_world_lawful.proofs.lawful_rules.owner_issue_is_lawful.Goals as goal

pub returns : goal.returns
returns c = by_owner
