use Rattle.qs_world_refine.proofs.SoundLogs.{restart_sound}
use Rattle.qs_world_refine.proofs.SoundRestart.{peer_restarted_sound, begin_incarnation_sound}
use Rattle.qs_world_refine.proofs.sound_rules.restarting.Goals as goal

pub returns : goal.returns
returns c = record { peer_restarted = peer_restarted_sound; restart = restart_sound; begin_incarnation = begin_incarnation_sound }
