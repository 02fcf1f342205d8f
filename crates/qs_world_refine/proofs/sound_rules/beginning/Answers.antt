use Rattle.qs_world_refine.proofs.SoundBegin.{begin_sound, begin_command_sound}
use Rattle.qs_world_refine.proofs.sound_rules.beginning.Goals as goal

pub returns : goal.returns
returns c = record { begins = begin_sound; command = begin_command_sound }
