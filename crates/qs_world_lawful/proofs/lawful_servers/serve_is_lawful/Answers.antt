use Rattle.qs_world_lawful.proofs.ServingOne.{by_serve}
use Rattle.qs_world_lawful.proofs.lawful_servers.serve_is_lawful.Goals as goal

pub returns : goal.returns
returns c = by_serve
