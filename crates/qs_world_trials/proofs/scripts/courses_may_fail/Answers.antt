use Rattle.qs_world_trials.proofs.TriedCourseRuns.{audit_fails, lines_fails, loans_fails, made_fails, quotas_fails, replies_fails, seats_fails}
use Rattle.qs_world_trials.proofs.scripts.courses_may_fail.Goals as goal

pub returns : goal.returns
returns c = record { shown = λ alloc. record { lines = lines_fails alloc; seats = seats_fails alloc; made = made_fails alloc; loans = loans_fails alloc; replies = replies_fails alloc; audit = audit_fails alloc; quotas = quotas_fails alloc } }
