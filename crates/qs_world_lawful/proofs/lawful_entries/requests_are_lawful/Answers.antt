use Rattle.qs_world_lawful.proofs.Issuing.{owner_issues, borrower_issues}
use Rattle.qs_world_lawful.proofs.lawful_entries.requests_are_lawful.Goals as goal

pub returns : goal.returns
returns c = record { owner = owner_issues; borrower = borrower_issues }
