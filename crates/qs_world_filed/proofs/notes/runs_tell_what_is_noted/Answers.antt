use Rattle.qs_world_filed.proofs.ToldRuns.{each_run_tells_noted}
use Rattle.qs_world_filed.proofs.notes.runs_tell_what_is_noted.Goals as goal

pub returns : goal.returns
returns c = each_run_tells_noted
