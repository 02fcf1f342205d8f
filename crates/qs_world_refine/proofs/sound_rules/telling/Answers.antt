use Rattle.qs_world_refine.proofs.SoundTell.{tell_came_sound}
use Rattle.qs_world_refine.proofs.SoundHome.{told_came_sound, inquiry_came_sound}
use Rattle.qs_world_refine.proofs.sound_rules.telling.Goals as goal

pub returns : goal.returns
returns c = record { tell_came = tell_came_sound; told_came = told_came_sound; inquiry_came = inquiry_came_sound }
