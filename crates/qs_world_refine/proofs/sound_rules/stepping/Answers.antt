use Rattle.qs_world_refine.proofs.SoundHappen.{happen_sound}
use Rattle.qs_world_refine.proofs.SoundStep.{answer_waiting_sound, step_sound}
use Rattle.qs_world_refine.proofs.sound_rules.stepping.Goals as goal

pub returns : goal.returns
returns c = record { happens = happen_sound; answers = answer_waiting_sound; step = step_sound }
