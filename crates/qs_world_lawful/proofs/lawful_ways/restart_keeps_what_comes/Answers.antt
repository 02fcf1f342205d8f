use Rattle.qs_world_lawful.proofs.RisenScripts.{rise_scripts}
use Rattle.qs_world_lawful.proofs.WaysOn.{rise_ways}
use Rattle.qs_world_lawful.proofs.lawful_ways.restart_keeps_what_comes.Goals as goal

pub returns : goal.returns
returns c = record { scripts = rise_scripts; ways = rise_ways }
