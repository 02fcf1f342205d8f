use Rattle.qs_world_runs.proofs.RepliesTrue.{replies_true}
use Rattle.qs_world_runs.proofs.replies.replies_are_true.Goals as goal

pub returns : goal.returns
returns c = replies_true
