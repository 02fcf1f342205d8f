use Rattle.qs_world_refine.proofs.SoundLoans.{take_sound, yield_sound}
use Rattle.qs_world_refine.proofs.sound_rules.borrowing.Goals as goal

pub returns : goal.returns
returns c = record { take = take_sound; gives_back = yield_sound }
