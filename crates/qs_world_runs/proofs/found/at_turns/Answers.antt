use Rattle.qs_world_runs.proofs.FoundTurns.{turns_find}
use Rattle.qs_world_runs.proofs.found.at_turns.Goals as goal

pub returns : goal.returns
returns c = turns_find
