use Rattle.qs_world_opening.proofs.CourseLines.{script_is_of}
use Rattle.qs_world_opening.proofs.laws.scripts_are_of_their_runs.Goals as goal

pub returns : goal.returns
returns c = script_is_of
