use Rattle.qs_world_lawful.proofs.Voting.{by_vote}
use Rattle.qs_world_lawful.proofs.lawful_servers.vote_is_lawful.Goals as goal

pub returns : goal.returns
returns c = by_vote
