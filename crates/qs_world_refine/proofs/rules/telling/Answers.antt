use Rattle.qs_world_refine.proofs.LearnAbort.{tell_abort, tell_abort_unknown}
use Rattle.qs_world_refine.proofs.RuleGoes.{tell_commit}
use Rattle.qs_world_refine.proofs.TellAbortCame.{tell_again}
use Rattle.qs_world_refine.proofs.rules.telling.Goals as goal

pub returns : goal.returns
returns c = record { tell_commit = tell_commit; tell_abort = tell_abort; tell_abort_again = tell_again; tell_abort_unknown = tell_abort_unknown }
