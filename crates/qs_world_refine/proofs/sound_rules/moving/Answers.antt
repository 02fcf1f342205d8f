use Rattle.qs_world_refine.proofs.SoundMoves.{move_sound}
use Rattle.qs_world_refine.proofs.sound_rules.moving.Goals as goal

pub returns : goal.returns
returns c = record { moves = move_sound }
