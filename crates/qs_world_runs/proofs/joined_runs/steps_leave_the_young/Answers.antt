use Rattle.qs_world_runs.proofs.StaysWorlds.{steps_keep_logged, steps_tick_once, steps_young}
use Rattle.qs_world_runs.proofs.joined_runs.steps_leave_the_young.Goals as goal

pub returns : goal.returns
returns c = record { young = steps_young; ticks = steps_tick_once; logged = steps_keep_logged }
