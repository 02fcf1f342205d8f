use Rattle.qs_world_agree_ends.proofs.VotesRun.{seen}
use Rattle.qs_world_agree_ends.proofs.runs.votes_are_seen.Goals as goal

pub returns : goal.returns
returns c = record { seen = seen }
