use Rattle.qs_world_course.proofs.Given.{given_stays, served_is_given}
use Rattle.qs_world_course.proofs.clients.replies_are_given.Goals as goal

pub returns : goal.returns
returns c = record { stays = given_stays; served = served_is_given }
