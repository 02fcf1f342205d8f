use Rattle.qs_world_runs.proofs.Words.{AwaitedAt}
use Rattle.qs_world_runs.proofs.SameVotes.{each_vote_same}
use Rattle.qs_world_runs.proofs.votes.votes_are_of_what_was_pending.Goals as goal

pub returns : goal.returns
returns c = each_vote_same AwaitedAt
