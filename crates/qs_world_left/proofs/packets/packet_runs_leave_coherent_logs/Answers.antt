use Rattle.qs_world_left.proofs.RunsLeave.{each_leaves_coherent, each_run_coherent}
use Rattle.qs_world_left.proofs.packets.packet_runs_leave_coherent_logs.Goals as goal

pub returns : goal.returns
returns c = record { next = each_run_coherent; logs = each_leaves_coherent }
