use Rattle.qs_world_lawful.proofs.GivenByWorld.{line_comes, message_comes}
use Rattle.qs_world_lawful.proofs.lawful_given.world_gives_what_comes.Goals as goal

pub returns : goal.returns
returns c = record { lines = line_comes; messages = message_comes }
