use Rattle.qs_world_agree_ends.proofs.ChainRun.{seen}
use Rattle.qs_world_agree_ends.proofs.runs.chain_is_seen.Goals as goal

pub returns : goal.returns
returns c = record { seen = seen }
