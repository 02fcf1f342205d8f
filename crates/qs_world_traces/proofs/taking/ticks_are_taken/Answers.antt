use Rattle.qs_world_traces.proofs.TicksTaken.{each_takes_tick}
use Rattle.qs_world_traces.proofs.taking.ticks_are_taken.Goals as goal

pub returns : goal.returns
returns c = each_takes_tick
