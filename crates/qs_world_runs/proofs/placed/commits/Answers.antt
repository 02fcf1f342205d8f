use Rattle.qs_world_runs.proofs.CommitsPlaced.{committed_free, committed_ways, committed_keeps, committed_unanimous}
use Rattle.qs_world_runs.proofs.placed.commits.Goals as goal

pub returns : goal.returns
returns c = record { free = committed_free; ways = committed_ways; keeps = committed_keeps; unanimous = committed_unanimous }
