use Rattle.qs_world_course.proofs.LinesLeft.{before_has_line, plan_has_line, spent_is_fired}
use Rattle.qs_world_course.proofs.kinds.lines_are_left.Goals as goal

pub returns : goal.returns
returns c = record { plan = plan_has_line; before = before_has_line; spent = spent_is_fired }
