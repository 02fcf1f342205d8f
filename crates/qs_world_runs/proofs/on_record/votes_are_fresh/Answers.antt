use Rattle.qs_world_runs.proofs.Words.{PlacesAt}
use Rattle.qs_world_runs.proofs.OnRecordMoves.{votes_are_fresh}
use Rattle.qs_world_runs.proofs.on_record.votes_are_fresh.Goals as goal

pub returns : goal.returns
returns c = votes_are_fresh PlacesAt
