use Rattle.qs_world_lawful.proofs.TriedRuns.{early, later, kept, lost, late_join, two, one, empty_fails}
use Rattle.qs_world_lawful.proofs.tried.held_in_runs.Goals as goal

pub returns : goal.returns
returns c = record { shown = λ alloc. record { early = early alloc; later = later alloc; kept = kept alloc; lost = lost alloc; late_join = late_join alloc; two = two alloc; one = one alloc; empty_fails = empty_fails alloc } }
