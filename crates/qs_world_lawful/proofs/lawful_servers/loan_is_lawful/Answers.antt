use Rattle.qs_world_lawful.proofs.Lending.{by_loan}
use Rattle.qs_world_lawful.proofs.lawful_servers.loan_is_lawful.Goals as goal

pub returns : goal.returns
returns c = by_loan
