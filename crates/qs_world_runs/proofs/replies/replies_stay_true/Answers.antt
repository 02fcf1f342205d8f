use Rattle.qs_world_runs.proofs.RepliesMoves.{between_keep_replies, opens_replies}
use Rattle.qs_world_runs.proofs.RepliesSteps.{step_keeps_replies}
use Rattle.qs_world_runs.proofs.replies.replies_stay_true.Goals as goal

pub returns : goal.returns
returns c = record { opens = opens_replies; between = between_keep_replies; steps = step_keeps_replies }
