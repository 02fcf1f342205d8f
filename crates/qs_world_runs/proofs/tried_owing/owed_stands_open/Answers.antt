use Rattle.qs_world_runs.proofs.TriedOwingRuns.{early, kept, late_join, later, lost, no_history_fails, there, there_too, two}
use Rattle.qs_world_runs.proofs.tried_owing.owed_stands_open.Goals as goal

pub returns : goal.returns
returns c = record { shown = λ alloc. record { early = early alloc; later = later alloc; two = two alloc; late_join = late_join alloc; kept = kept alloc; lost = lost alloc; there = there alloc; there_too = there_too alloc; no_history_fails = no_history_fails alloc } }
