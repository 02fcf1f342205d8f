use Rattle.qs_world_runs.proofs.BatchVotes.{batch_leaves_votes}
use Rattle.qs_world_runs.proofs.CutCould.{due_votes_cut}
use Rattle.qs_world_runs.proofs.DueVotes.{steps_vote_due}
use Rattle.qs_world_runs.proofs.MarkedBefore.{each_marked_before}
use Rattle.qs_world_runs.proofs.joined_runs.votes_were_due.Goals as goal

pub returns : goal.returns
returns c = record { due = steps_vote_due; marked = each_marked_before; cut = due_votes_cut; batch = batch_leaves_votes }
