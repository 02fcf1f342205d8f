use Rattle.qs_world_lawful.proofs.StopsWhole.{by_cut, by_stop}
use Rattle.qs_world_lawful.proofs.lawful_worlds.stop_is_held.Goals as goal

pub returns : goal.returns
returns c = record { stops = by_stop; cut = by_cut }
