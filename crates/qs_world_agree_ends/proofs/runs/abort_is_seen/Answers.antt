use Rattle.qs_world_agree_ends.proofs.AbortRun.{seen}
use Rattle.qs_world_agree_ends.proofs.runs.abort_is_seen.Goals as goal

pub returns : goal.returns
returns c = record { seen = seen }
