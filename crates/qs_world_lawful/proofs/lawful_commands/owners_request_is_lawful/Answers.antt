use Rattle.qs_world_lawful.proofs.Requesting.{by_owners_request}
use Rattle.qs_world_lawful.proofs.lawful_commands.owners_request_is_lawful.Goals as goal

pub returns : goal.returns
returns c = by_owners_request
