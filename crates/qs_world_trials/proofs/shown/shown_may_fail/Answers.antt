use Rattle.qs_world_trials.proofs.TriedShownRuns.{crossed_fails, known_fails, listed_fails, said_fails, seated_fails, sound_fails, tidy_fails, told_fails}
use Rattle.qs_world_trials.proofs.shown.shown_may_fail.Goals as goal

pub returns : goal.returns
returns c = record { shown = λ alloc. record { sound = sound_fails alloc; tidy = tidy_fails alloc; crossed = crossed_fails alloc; seated = seated_fails alloc; known = known_fails alloc; said = said_fails alloc; told = told_fails alloc; listed = listed_fails alloc } }
