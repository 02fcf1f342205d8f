use Rattle.qs_world_lawful.proofs.ScriptsLike.{crash_scripts}
use Rattle.qs_world_lawful.proofs.WaysOn.{crash_ways}
use Rattle.qs_world_lawful.proofs.lawful_ways.crash_keeps_what_comes.Goals as goal

pub returns : goal.returns
returns c = record { scripts = crash_scripts; ways = crash_ways }
