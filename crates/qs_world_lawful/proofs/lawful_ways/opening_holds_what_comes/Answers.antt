use Rattle.qs_world_lawful.proofs.OpenedScripts.{opens_scripts, opens_ways}
use Rattle.qs_world_lawful.proofs.SoundChannels.{opens_sound}
use Rattle.qs_world_lawful.proofs.lawful_ways.opening_holds_what_comes.Goals as goal

pub returns : goal.returns
returns c = record { scripts = opens_scripts; ways = opens_ways; sound = opens_sound }
