use Rattle.qs_world_packets.proofs.MovesGo.{each_move_goes}
use Rattle.qs_world_packets.proofs.OpensWithin.{opens_alike}
use Rattle.qs_world_packets.proofs.RunsGo.{each_run_lawful, each_run_shown}
use Rattle.qs_world_packets.proofs.packet_runs.every_run.Goals as goal

pub returns : goal.returns
returns c = record { moves = each_move_goes; opens = opens_alike; runs = each_run_shown; lawful = each_run_lawful }
