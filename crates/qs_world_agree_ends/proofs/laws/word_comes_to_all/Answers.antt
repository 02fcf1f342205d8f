use Rattle.qs_world_agree_ends.proofs.WordLaws.{home_has_decided, nobody_awaits}
use Rattle.qs_world_agree_ends.proofs.laws.word_comes_to_all.Goals as goal

pub returns : goal.returns
returns c = record { decided = home_has_decided; none = nobody_awaits }
