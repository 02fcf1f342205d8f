use Rattle.qs_world_refine.proofs.SoundCount.{closer_came_sound}
use Rattle.qs_world_refine.proofs.sound_rules.counting.Goals as goal

pub returns : goal.returns
returns c = record { closer_came = closer_came_sound }
