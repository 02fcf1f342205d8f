use Rattle.qs_world_lawful.proofs.IssuingAway.{by_owner_away}
use Rattle.qs_world_lawful.proofs.lawful_rules.owner_issue_away_is_lawful.Goals as goal

pub returns : goal.returns
returns c = by_owner_away
