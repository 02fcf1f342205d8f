use Rattle.qs_world_lawful.proofs.OpenedWorld.{world_held}
use Rattle.qs_world_lawful.proofs.lawful_worlds.opening_is_held.Goals as goal

pub returns : goal.returns
returns c = record { held = world_held }
