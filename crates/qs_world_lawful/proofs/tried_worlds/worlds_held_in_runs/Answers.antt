use Rattle.qs_world_lawful.proofs.TriedWorldRuns.{early, later, kept, lost, late_join, two, two_lost, no_logs_fail, no_history_fails}
use Rattle.qs_world_lawful.proofs.tried_worlds.worlds_held_in_runs.Goals as goal

pub returns : goal.returns
returns c = record { shown = λ alloc. record { early = early alloc; later = later alloc; kept = kept alloc; lost = lost alloc; late_join = late_join alloc; two = two alloc; two_lost = two_lost alloc; no_logs_fail = no_logs_fail alloc; no_history_fails = no_history_fails alloc } }
