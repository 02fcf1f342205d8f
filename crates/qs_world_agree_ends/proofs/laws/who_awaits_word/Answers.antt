use Rattle.qs_world_agree_ends.proofs.WaitingLaws.{involved_was_engaged, awaits_behind}
use Rattle.qs_world_agree_ends.proofs.laws.who_awaits_word.Goals as goal

pub returns : goal.returns
returns c = record { involved = involved_was_engaged; behind = awaits_behind }
