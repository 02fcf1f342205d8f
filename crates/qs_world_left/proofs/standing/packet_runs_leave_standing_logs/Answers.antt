use Rattle.qs_world_left.proofs.RunsStand.{each_run_stands, each_run_stands_alone}
use Rattle.qs_world_left.proofs.standing.packet_runs_leave_standing_logs.Goals as goal

pub returns : goal.returns
returns c = record { each = each_run_stands; alone = each_run_stands_alone }
