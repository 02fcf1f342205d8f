use Rattle.qs_world_merge.proofs.OfOneRun.{each_is_of_one_run}
use Rattle.qs_world_merge.proofs.merging.cells_tell_of_one_run.Goals as goal

pub returns : goal.returns
returns c = each_is_of_one_run
