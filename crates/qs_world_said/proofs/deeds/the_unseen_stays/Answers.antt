use Rattle.qs_world_said.proofs.Unseen.{home_aborts_keep, unseen_keeps}
use Rattle.qs_world_said.proofs.deeds.the_unseen_stays.Goals as goal

pub returns : goal.returns
returns c = record { unseen = unseen_keeps; aborts = home_aborts_keep }
