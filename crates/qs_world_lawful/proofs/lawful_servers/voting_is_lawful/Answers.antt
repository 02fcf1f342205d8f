use Rattle.qs_world_lawful.proofs.FilesHeld.{files_held}
use Rattle.qs_world_lawful.proofs.VotingWhole.{by_vote_with}
use Rattle.qs_world_lawful.proofs.lawful_servers.voting_is_lawful.Goals as goal

pub returns : goal.returns
returns c = λ x0 x1 x2 x3 x4 x5 x6 x7 x8 x10 x11 x12 x13 x14 x15. by_vote_with x0 x1 x2 x3 x4 x5 x6 x7 x8 (files_held x0 x1 x2 x8) x10 x11 x12 x13 x14 x15
