use Rattle.qs_world_runs.proofs.RepliesRuns.{moves_keep_replies}
use Rattle.qs_world_runs.proofs.replies.replies_are_carried.Goals as goal

pub returns : goal.returns
returns c = moves_keep_replies
