use Rattle.qs_world_refine.proofs.Reopening.{left_shown, may_reopen, reopens_lawful, reopens_placed}
use Rattle.qs_world_refine.proofs.begins.lefts.Goals as goal

pub returns : goal.returns
returns c = record { shown = left_shown; reopens = may_reopen; lawful = reopens_lawful; placed = reopens_placed }
