use Rattle.qs_world_refine.proofs.SteadyStarts.{start_steady}
use Rattle.qs_world_refine.proofs.SteadyMays.{steady_may}
use Rattle.qs_world_refine.proofs.SteadyRises.{move_steady}
use Rattle.qs_world_refine.proofs.steadies.worlds.Goals as goal

pub returns : goal.returns
returns c = record { start = start_steady; may = steady_may; moves = move_steady }
