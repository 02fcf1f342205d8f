use Rattle.qs_world_runs.proofs.BegunDone.{begun_is_bare}
use Rattle.qs_world_runs.proofs.comes.what_begins_is_bare.Goals as goal

pub returns : goal.returns
returns c = begun_is_bare
