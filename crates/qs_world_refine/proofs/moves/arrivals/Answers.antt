use Rattle.qs_world_refine.proofs.SaysOutcomes.{tell_came_on, told_came_on, inquiry_came_on}
use Rattle.qs_world_refine.proofs.SaysRules.{request_came_on, reply_came_on, ask_came_on, closer_came_on, refusal_came_on, serve_all_on}
use Rattle.qs_world_refine.proofs.SaysSettles.{peer_restarted_on}
use Rattle.qs_world_refine.proofs.SaysStep.{begin_command_on, happen_on}
use Rattle.qs_world_refine.proofs.moves.arrivals.Goals as goal

pub returns : goal.returns
returns c = record {
  begin = begin_command_on;
  request = request_came_on;
  reply = reply_came_on;
  ask = ask_came_on;
  closer = closer_came_on;
  refusal = refusal_came_on;
  tell = tell_came_on;
  told = told_came_on;
  inquiry = inquiry_came_on;
  serve = serve_all_on;
  restart = peer_restarted_on;
  happens = happen_on;
}
