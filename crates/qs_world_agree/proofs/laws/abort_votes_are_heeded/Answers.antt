use Rattle.qs_world_agree.proofs.Heeded.{heeded, refused}
use Rattle.qs_world_agree.proofs.laws.abort_votes_are_heeded.Goals as goal

pub returns : goal.returns
returns c = record { voted = heeded; refused = refused }
