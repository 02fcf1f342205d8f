use Rattle.qs_world_lawful.proofs.CoherentOpenings.{opens_soundly}
use Rattle.qs_world_lawful.proofs.lawful_worlds.opening_is_coherent.Goals as goal

pub returns : goal.returns
returns c = record { sound = opens_soundly }
