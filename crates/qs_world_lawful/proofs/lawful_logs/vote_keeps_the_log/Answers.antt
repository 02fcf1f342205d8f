use Rattle.qs_world_lawful.proofs.LogLaws.{vote_keeps}
use Rattle.qs_world_lawful.proofs.lawful_logs.vote_keeps_the_log.Goals as goal

pub returns : goal.returns
returns c = vote_keeps
