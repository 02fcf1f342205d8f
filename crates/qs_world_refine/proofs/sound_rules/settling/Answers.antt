use Rattle.qs_world_refine.proofs.SoundSettle.{settle_sound}
use Rattle.qs_world_refine.proofs.sound_rules.settling.Goals as goal

pub returns : goal.returns
returns c = record { settle = settle_sound }
