use Rattle.qs_world_runs.proofs.FreshQueues.{fresh_marked, fresh_queues}
use Rattle.qs_world_runs.proofs.RepliesIssued.{issues_give}
use Rattle.qs_world_runs.proofs.replies.queues_stay_fresh.Goals as goal

pub returns : goal.returns
returns c = record { issues = issues_give; queues = fresh_queues; marks = fresh_marked }
