use Rattle.qs_world_said.proofs.Naming.{names_are_known, names_aside, names_stay}
use Rattle.qs_world_said.proofs.steps.names_stand_at_each_turn.Goals as goal

pub returns : goal.returns
returns c = record { stay = names_stay; aside = names_aside; known = names_are_known }
