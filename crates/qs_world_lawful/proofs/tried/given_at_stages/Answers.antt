use Rattle.qs_world_lawful.proofs.TriedStageRuns.{blind_fails, early, later, timers, two}
use Rattle.qs_world_lawful.proofs.tried.given_at_stages.Goals as goal

pub returns : goal.returns
returns c = record { shown = λ alloc. record { early = early alloc; later = later alloc; two = two alloc; timers = timers alloc; blind_fails = blind_fails alloc } }
