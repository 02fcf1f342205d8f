use Rattle.std.proofs.Common.{refl}
use Rattle.qs_world_agree_ends.proofs.runs.moments_are_seen.Goals as goal

pub returns : goal.returns
returns c = record { seen = record { late_join = (refl, refl, refl, refl); abort_chain = (refl, refl, refl, refl, refl) } }
