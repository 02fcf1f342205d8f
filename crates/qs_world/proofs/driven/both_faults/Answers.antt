use Rattle.qs_world.proofs.BothFaultRuns as runs
use Rattle.qs_world.proofs.driven.both_faults.Goals as goal

pub returns : goal.returns
returns c = record { shown = λ alloc. record { from_0 = runs.from_0 alloc; from_10 = runs.from_10 alloc; from_20 = runs.from_20 alloc; from_30 = runs.from_30 alloc; from_40 = runs.from_40 alloc; from_50 = runs.from_50 alloc; from_60 = runs.from_60 alloc; from_70 = runs.from_70 alloc; from_80 = runs.from_80 alloc } }
