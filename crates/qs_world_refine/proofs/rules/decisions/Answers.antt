use Rattle.qs_world_refine.proofs.DecideCommit.{decide_commit}
use Rattle.qs_world_refine.proofs.DecideAbort.{decide_abort}
use Rattle.qs_world_refine.proofs.rules.decisions.Goals as goal

pub returns : goal.returns
returns c = record { decide_commit = decide_commit; decide_abort = decide_abort }
