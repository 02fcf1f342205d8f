use Rattle.qs_world_runs.proofs.Words.{PlacesAt}
use Rattle.qs_world_runs.proofs.CoversMoves.{moves_keep_covers, opens_covers}
use Rattle.qs_world_runs.proofs.on_record.last_votes_cover.Goals as goal

pub returns : goal.returns
returns c = record { opens = opens_covers; moves = moves_keep_covers PlacesAt }
