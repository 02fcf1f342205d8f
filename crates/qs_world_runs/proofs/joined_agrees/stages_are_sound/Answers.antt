use Rattle.qs_world_runs.proofs.AgreesPasses.{stages_sound}
use Rattle.qs_world_runs.proofs.JoinedSound.{sound_gives}
use Rattle.qs_world_runs.proofs.joined_agrees.stages_are_sound.Goals as goal

pub returns : goal.returns
returns c = record { stages = stages_sound; gives = sound_gives }
