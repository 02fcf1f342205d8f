use Rattle.qs_world_agree.proofs.AbortChainRun.{shown}
use Rattle.qs_world_agree.proofs.runs.abort_chain.Goals as goal

pub returns : goal.returns
returns c = record { shown = shown }
