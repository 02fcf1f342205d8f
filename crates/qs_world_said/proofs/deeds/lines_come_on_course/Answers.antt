use Rattle.qs_world_said.proofs.Comes.{comes_just, comes_keeps, learns_keeps, rests_keep}
use Rattle.qs_world_said.proofs.deeds.lines_come_on_course.Goals as goal

pub returns : goal.returns
returns c = record { comes = comes_keeps; just = comes_just; rests = rests_keep; learns = learns_keeps }
