use Rattle.qs_world_runs.proofs.Words.{AlongRun}
use Rattle.qs_world_runs.proofs.JoinedMoves.{each_move_joined}
use Rattle.qs_world_runs.proofs.JoinedOver.{each_opens_joined, each_run_joined, each_run_lawful}
use Rattle.qs_world_runs.proofs.RunsGoOn.{runs_go}
use Rattle.qs_world_runs.proofs.joined_runs.runs_are_lawful.Goals as goal

pub returns : goal.returns
returns c = record {
  opens = each_opens_joined AlongRun runs_go;
  moves = each_move_joined AlongRun runs_go;
  runs = each_run_joined AlongRun runs_go;
  lawful = each_run_lawful AlongRun runs_go;
}
