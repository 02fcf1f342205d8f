use Rattle.qs_world_lawful.proofs.MetWays.{meet_ways}
use Rattle.qs_world_lawful.proofs.ScriptsLike.{meet_scripts}
use Rattle.qs_world_lawful.proofs.lawful_ways.meeting_keeps_what_comes.Goals as goal

pub returns : goal.returns
returns c = record { scripts = meet_scripts; ways = meet_ways }
