use Rattle.qs_world_said.proofs.NamingStep.{names_are_known_amid, step_keeps_standing}
use Rattle.qs_world_said.proofs.steps.names_are_known_amid.Goals as goal

pub returns : goal.returns
returns c = record { amid = names_are_known_amid; after = step_keeps_standing }
