use Rattle.qs_world_runs.proofs.Words.{PlacesAt}
use Rattle.qs_world_runs.proofs.OnRecordMoves.{moves_keep_records, opens_records}
use Rattle.qs_world_runs.proofs.on_record.records_are_known.Goals as goal

pub returns : goal.returns
returns c = record { opens = opens_records; moves = moves_keep_records PlacesAt }
