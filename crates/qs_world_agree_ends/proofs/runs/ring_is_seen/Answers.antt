use Rattle.qs_world_agree_ends.proofs.RingRun.{seen}
use Rattle.qs_world_agree_ends.proofs.runs.ring_is_seen.Goals as goal

pub returns : goal.returns
returns c = record { seen = seen }
