use Rattle.qs_world_course.proofs.Closes.{begins_are_answered, refusals_are_answered}
use Rattle.qs_world_course.proofs.clients.begins_go_on.Goals as goal

pub returns : goal.returns
returns c = record { begins = begins_are_answered; refusals = refusals_are_answered }
