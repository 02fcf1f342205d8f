use Rattle.qs_world_runs.proofs.Words.{AlongRun}
use Rattle.qs_world_runs.proofs.CountsAlone.{counts_alone}
use Rattle.qs_world_runs.proofs.TalliedMoves.{moves_counted, opens_counted}
use Rattle.qs_world_runs.proofs.counted.what_waits_alone_has_numbers.Goals as goal

pub returns : goal.returns
returns c = record { opens = opens_counted; moves = moves_counted AlongRun; serves = counts_alone AlongRun (λ o world along. along.counted) }
