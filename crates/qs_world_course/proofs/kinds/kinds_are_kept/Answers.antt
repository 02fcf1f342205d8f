use Rattle.qs_world_course.proofs.KindsKept.{kinds_are_all, lines_leave_clients, quiet_leaves_clients}
use Rattle.qs_world_course.proofs.kinds.kinds_are_kept.Goals as goal

pub returns : goal.returns
returns c = record { all = kinds_are_all; lines = lines_leave_clients; quiet = quiet_leaves_clients }
