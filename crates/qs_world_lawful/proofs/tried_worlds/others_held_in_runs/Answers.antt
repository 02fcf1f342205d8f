use Rattle.qs_world_lawful.proofs.TriedAsideRuns.{early, late_join, later, there, two}
use Rattle.qs_world_lawful.proofs.tried_worlds.others_held_in_runs.Goals as goal

pub returns : goal.returns
returns c = record { shown = λ alloc. record { early = early alloc; later = later alloc; two = two alloc; late_join = late_join alloc; there = there alloc } }
