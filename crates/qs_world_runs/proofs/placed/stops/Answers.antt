use Rattle.qs_world_runs.proofs.StopsPlaced.{stops_placed, cut_placed, stop_holds, cut_holds}
use Rattle.qs_world_runs.proofs.placed.stops.Goals as goal

pub returns : goal.returns
returns c = record { placed = stops_placed; cut = cut_placed; stop_holds = stop_holds; cut_holds = cut_holds }
