use Rattle.qs_world_lawful.proofs.RiseKeeps.{keeps}
use Rattle.qs_world_lawful.proofs.RisesWhole.{rises_well}
use Rattle.qs_world_lawful.proofs.lawful_worlds.restart_is_held.Goals as goal

pub returns : goal.returns
returns c = record { rises = rises_well; others = keeps }
