use Rattle.qs_world_agree.proofs.Lawful.{silenced}
use Rattle.qs_world_agree.proofs.laws.abort_is_final.Goals as goal

pub returns : goal.returns
returns c = record { silenced = silenced }
