use Rattle.qs_world_said.proofs.Begins.{begins_keep, refuses_keep}
use Rattle.qs_world_said.proofs.deeds.begins_keep_to_the_script.Goals as goal

pub returns : goal.returns
returns c = record { begins = begins_keep; refuses = refuses_keep }
