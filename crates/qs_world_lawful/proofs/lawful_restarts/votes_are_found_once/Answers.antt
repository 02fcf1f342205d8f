use Rattle.qs_world_lawful.proofs.FoundOnce.{found_once}
use Rattle.qs_world_lawful.proofs.lawful_restarts.votes_are_found_once.Goals as goal

pub returns : goal.returns
returns c = found_once
