use Rattle.qs_world_runs.proofs.TriedApartRuns.{early, kept, late_join, later, lost, there, two}
use Rattle.qs_world_runs.proofs.tried_apart.issuers_are_engaged.Goals as goal

pub returns : goal.returns
returns c = record { shown = λ alloc. record { early = early alloc; later = later alloc; two = two alloc; late_join = late_join alloc; kept = kept alloc; lost = lost alloc; there = there alloc } }
