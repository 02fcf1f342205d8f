use Rattle.qs_world_refine.proofs.Starting.{unseen_shown, may_begin, begins_lawful}
use Rattle.qs_world_refine.proofs.starts.unseen.Goals as goal

pub returns : goal.returns
returns c = record { shown = unseen_shown; opens = may_begin; lawful = begins_lawful }
