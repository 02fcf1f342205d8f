use Rattle.qs_world_runs.proofs.Words.{PlacesAt}
use Rattle.qs_world_runs.proofs.OpensRunning.{opens_running}
use Rattle.qs_world_runs.proofs.RisesRunning.{rises_running}
use Rattle.qs_world_runs.proofs.joined_runs.nodes_begin_with_what_stands_beside.Goals as goal

pub returns : goal.returns
returns c = record { opens = opens_running; rises = rises_running PlacesAt }
