use Rattle.qs_world_refine.proofs.SoundAnswer.{answer_superior_sound, refuse_elsewhere_sound, forget_rule_sound}
use Rattle.qs_world_refine.proofs.sound_rules.answering.Goals as goal

pub returns : goal.returns
returns c = record { answer_superior = answer_superior_sound; refuse_elsewhere = refuse_elsewhere_sound; forget_rule = forget_rule_sound }
