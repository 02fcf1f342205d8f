use Rattle.qs_world_trials.proofs.TriedAlongRuns.{answered_fails, awaited_fails, counted_fails, covered_fails, fresh_fails, lent_fails, recorded_fails, replied_fails}
use Rattle.qs_world_trials.proofs.along.along_may_fail.Goals as goal

pub returns : goal.returns
returns c = record { shown = λ alloc. record { recorded = recorded_fails alloc; covered = covered_fails alloc; replied = replied_fails alloc; answered = answered_fails alloc; fresh = fresh_fails alloc; lent = lent_fails alloc; awaited = awaited_fails alloc; counted = counted_fails alloc } }
