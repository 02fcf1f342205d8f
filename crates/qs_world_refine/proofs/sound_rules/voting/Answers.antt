use Rattle.qs_world_refine.proofs.SoundVotes.{pass_rule_sound}
use Rattle.qs_world_refine.proofs.sound_rules.voting.Goals as goal

pub returns : goal.returns
returns c = record { passes = pass_rule_sound }
