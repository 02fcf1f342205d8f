use Rattle.qs_world_lawful.proofs.IssuingByRules.{by_borrower}
use Rattle.qs_world_lawful.proofs.lawful_rules.borrower_issue_is_lawful.Goals as goal

pub returns : goal.returns
returns c = by_borrower
