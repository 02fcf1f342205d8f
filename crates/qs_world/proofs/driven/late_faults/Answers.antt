use Rattle.qs_world.proofs.LateFaultRuns as runs
use Rattle.qs_world.proofs.driven.late_faults.Goals as goal

pub returns : goal.returns
returns c = record { shown = λ alloc. record { from_64 = runs.from_64 alloc; from_72 = runs.from_72 alloc; from_80 = runs.from_80 alloc; from_88 = runs.from_88 alloc; from_96 = runs.from_96 alloc; from_104 = runs.from_104 alloc; from_112 = runs.from_112 alloc; from_120 = runs.from_120 alloc; from_128 = runs.from_128 alloc; from_136 = runs.from_136 alloc; from_144 = runs.from_144 alloc; from_152 = runs.from_152 alloc; from_160 = runs.from_160 alloc; from_168 = runs.from_168 alloc; from_176 = runs.from_176 alloc; from_184 = runs.from_184 alloc } }
