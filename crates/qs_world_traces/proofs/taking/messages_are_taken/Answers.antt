use Rattle.qs_world_traces.proofs.MessagesTaken.{each_takes_message}
use Rattle.qs_world_traces.proofs.taking.messages_are_taken.Goals as goal

pub returns : goal.returns
returns c = each_takes_message
