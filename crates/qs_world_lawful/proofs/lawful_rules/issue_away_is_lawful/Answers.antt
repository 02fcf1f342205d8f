use Rattle.qs_world_lawful.proofs.IssuingAway.{by_issue_away}
use Rattle.qs_world_lawful.proofs.lawful_rules.issue_away_is_lawful.Goals as goal

pub returns : goal.returns
returns c = by_issue_away
