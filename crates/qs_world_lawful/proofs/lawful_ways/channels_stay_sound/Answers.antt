use Rattle.qs_world_lawful.proofs.SoundChannels.{all_soundly}
use Rattle.qs_world_lawful.proofs.SoundWorlds.{world_moves_soundly}
use Rattle.qs_world_lawful.proofs.lawful_ways.channels_stay_sound.Goals as goal

pub returns : goal.returns
returns c = record { channels = all_soundly; worlds = world_moves_soundly }
