use Rattle.qs_world_trials.proofs.TriedScriptRuns.{asked_keeps, borrowed_keeps, conflicts_keeps, doubt_keeps, kept_keeps, late_join_keeps, lost_keeps, finds_away, finds_here, noted_away_keeps, noted_here_keeps, served_keeps, stopped_keeps, taken_name_keeps, told_keeps, voted_keeps}
use Rattle.qs_world_trials.proofs.scripts.journals_keep_to_scripts.Goals as goal

pub returns : goal.returns
returns c = record { shown = λ alloc. record { late_join = late_join_keeps alloc; taken_name = taken_name_keeps alloc; conflicts = conflicts_keeps alloc; kept = kept_keeps alloc; lost = lost_keeps alloc; served = served_keeps alloc; voted = voted_keeps alloc; asked = asked_keeps alloc; borrowed = borrowed_keeps alloc; told = told_keeps alloc; stopped = stopped_keeps alloc; doubt = doubt_keeps alloc; noted_here = noted_here_keeps alloc; noted_away = noted_away_keeps alloc; found_here = finds_here alloc; found_away = finds_away alloc } }
