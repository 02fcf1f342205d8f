use Rattle.qs_world_refine.proofs.SoundLogs.{opened_sound}
use Rattle.qs_world_refine.proofs.SoundStart.{start_sound}
use Rattle.qs_world_refine.proofs.sound_rules.opening.Goals as goal

pub returns : goal.returns
returns c = record { starts = start_sound; opens = opened_sound }
