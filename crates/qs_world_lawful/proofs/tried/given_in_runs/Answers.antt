use Rattle.qs_world_lawful.proofs.TriedGivenRuns.{early, kept, later, lost, timers, two}
use Rattle.qs_world_lawful.proofs.tried.given_in_runs.Goals as goal

pub returns : goal.returns
returns c = record { shown = λ alloc. record { early = early alloc; later = later alloc; kept = kept alloc; lost = lost alloc; two = two alloc; timers = timers alloc } }
