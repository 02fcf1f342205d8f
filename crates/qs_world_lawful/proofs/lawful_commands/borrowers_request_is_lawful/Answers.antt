use Rattle.qs_world_lawful.proofs.Requesting.{by_borrowers_request}
use Rattle.qs_world_lawful.proofs.lawful_commands.borrowers_request_is_lawful.Goals as goal

pub returns : goal.returns
returns c = by_borrowers_request
