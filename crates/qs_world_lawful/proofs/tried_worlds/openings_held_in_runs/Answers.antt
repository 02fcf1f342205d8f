use Rattle.qs_world_lawful.proofs.TriedOpeningRuns.{first, kept, lost, on, opens}
use Rattle.qs_world_lawful.proofs.tried_worlds.openings_held_in_runs.Goals as goal

pub returns : goal.returns
returns c = record { shown = λ alloc. record { opens = opens alloc; first = first alloc; on = on alloc; kept = kept alloc; lost = lost alloc } }
