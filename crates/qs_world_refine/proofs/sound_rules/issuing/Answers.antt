use Rattle.qs_world_refine.proofs.SoundSent.{issue_away_sound}
use Rattle.qs_world_refine.proofs.sound_rules.issuing.Goals as goal

pub returns : goal.returns
returns c = record { issue_away = issue_away_sound }
