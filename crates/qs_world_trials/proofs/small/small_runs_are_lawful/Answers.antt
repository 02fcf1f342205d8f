use Rattle.qs_world_trials.proofs.SmallRunsShown.{asked_holds, borrowed_holds, doubt_holds, next_holds, served_holds, stopped_holds, told_holds, voted_holds}
use Rattle.qs_world_trials.proofs.small.small_runs_are_lawful.Goals as goal

pub returns : goal.returns
returns c = record { shown = λ alloc. record { served = served_holds alloc; voted = voted_holds alloc; asked = asked_holds alloc; borrowed = borrowed_holds alloc; told = told_holds alloc; next = next_holds alloc; stopped = stopped_holds alloc; doubt = doubt_holds alloc } }
