use Rattle.qs_world_packets.proofs.RunsAgree.{each_run_agrees, each_run_tells, each_run_tells_learners}
use Rattle.qs_world_packets.proofs.packet_runs.nodes_agree.Goals as goal

pub returns : goal.returns
returns c = record { agrees = each_run_agrees; tells = each_run_tells; learners = each_run_tells_learners }
