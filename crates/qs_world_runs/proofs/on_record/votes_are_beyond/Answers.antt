use Rattle.qs_world_runs.proofs.Words.{PlacesAt}
use Rattle.qs_world_runs.proofs.CoversMoves.{votes_are_beyond}
use Rattle.qs_world_runs.proofs.on_record.votes_are_beyond.Goals as goal

pub returns : goal.returns
returns c = votes_are_beyond PlacesAt
