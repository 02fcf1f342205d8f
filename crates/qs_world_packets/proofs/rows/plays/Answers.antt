use Rattle.qs_world_packets.proofs.PlaysRun.{each_play_runs}
use Rattle.qs_world_packets.proofs.rows.plays.Goals as goal

pub returns : goal.returns
returns c = record { runs = each_play_runs }
