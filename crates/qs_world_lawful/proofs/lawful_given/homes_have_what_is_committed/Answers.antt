use Rattle.qs_world_lawful.proofs.HomesStand.{homes_stand}
use Rattle.qs_world_lawful.proofs.lawful_given.homes_have_what_is_committed.Goals as goal

pub returns : goal.returns
returns c = homes_stand
