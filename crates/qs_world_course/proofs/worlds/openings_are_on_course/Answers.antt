use Rattle.qs_world_course.proofs.Opens.{opens_on_course}
use Rattle.qs_world_course.proofs.worlds.openings_are_on_course.Goals as goal

pub returns : goal.returns
returns c = opens_on_course
