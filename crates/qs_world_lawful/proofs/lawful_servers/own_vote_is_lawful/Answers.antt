use Rattle.qs_world_lawful.proofs.ByRules.{by_own_vote}
use Rattle.qs_world_lawful.proofs.FilesHeld.{files_held}
use Rattle.qs_world_lawful.proofs.lawful_servers.own_vote_is_lawful.Goals as goal

pub returns : goal.returns
returns c = λ stamp before work tid part tx h. by_own_vote stamp before work tid part tx h (files_held stamp before work h)
