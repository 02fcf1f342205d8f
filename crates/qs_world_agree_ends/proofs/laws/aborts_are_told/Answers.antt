use Rattle.qs_world_agree_ends.proofs.TellingLaws.{abort_may_be_told, told_may_learn, to_tell_stays, drawn_are_to_tell, drawn_are_named}
use Rattle.qs_world_agree_ends.proofs.laws.aborts_are_told.Goals as goal

pub returns : goal.returns
returns c = record { told = abort_may_be_told; learns = told_may_learn; stays = to_tell_stays; drawn = drawn_are_to_tell; named = drawn_are_named }
