use Rattle.qs_world_merge.proofs.MayMoves.{may_cuts, may_meets, may_rises, may_steps, may_stops, may_ticks}
use Rattle.qs_world_merge.proofs.reaching.moves_may_be_made.Goals as goal

pub returns : goal.returns
returns c = record { steps = may_steps; cuts = may_cuts; stops = may_stops; rises = may_rises; meets = may_meets; ticks = may_ticks }
