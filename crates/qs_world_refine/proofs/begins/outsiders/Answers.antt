use Rattle.qs_world_refine.proofs.Outside.{outside_foreign}
use Rattle.qs_world_refine.proofs.begins.outsiders.Goals as goal

pub returns : goal.returns
returns c = record { foreign = outside_foreign }
