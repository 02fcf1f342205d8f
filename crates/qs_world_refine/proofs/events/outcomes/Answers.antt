use Rattle.qs_world_refine.proofs.Learning.{learn, acknowledge}
use Rattle.qs_world_refine.proofs.LearningAbort.{learn_abort, name_again}
use Rattle.qs_world_refine.proofs.events.outcomes.Goals as goal

pub returns : goal.returns
returns c = record { learn = learn; learn_abort = learn_abort; acknowledge = acknowledge; name_again = name_again }
