use Rattle.qs_world_refine.proofs.SoundDecide.{decide_abort_sound, decide_commit_sound}
use Rattle.qs_world_refine.proofs.sound_rules.deciding.Goals as goal

pub returns : goal.returns
returns c = record { abort = decide_abort_sound; commit = decide_commit_sound }
