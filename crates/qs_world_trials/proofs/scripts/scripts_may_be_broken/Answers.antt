use Rattle.qs_world_trials.proofs.TriedScriptRuns.{clients_breaks, lines_breaks, notes_breaks, seats_breaks}
use Rattle.qs_world_trials.proofs.scripts.scripts_may_be_broken.Goals as goal

pub returns : goal.returns
returns c = record { shown = λ alloc. record { lines = lines_breaks alloc; seats = seats_breaks alloc; clients = clients_breaks alloc; notes = notes_breaks alloc } }
