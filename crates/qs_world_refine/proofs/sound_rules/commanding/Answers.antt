use Rattle.qs_world_refine.proofs.SoundCommands.{borrower_command_sound, owner_command_sound}
use Rattle.qs_world_refine.proofs.sound_rules.commanding.Goals as goal

pub returns : goal.returns
returns c = record { borrower = borrower_command_sound; owner = owner_command_sound }
