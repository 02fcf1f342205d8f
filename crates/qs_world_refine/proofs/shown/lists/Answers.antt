use Rattle.qs_world_refine.proofs.Listing.{start_listed, move_listed}
use Rattle.qs_world_refine.proofs.SteadyFrom.{steady_gives}
use Rattle.qs_world_refine.proofs.shown.lists.Goals as goal

pub returns : goal.returns
returns c = record { start = start_listed; moves = move_listed; gives = steady_gives }
