use Rattle.qs_world_refine.proofs.RequestStands.{request_stands}
use Rattle.qs_world_refine.proofs.steps.requests.Goals as goal

pub returns : goal.returns
returns c = record { request = request_stands }
