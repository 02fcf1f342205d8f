use Rattle.qs_world_agree.proofs.Lawful.{answered, involved}
use Rattle.qs_world_agree.proofs.laws.nobody_forgotten.Goals as goal

pub returns : goal.returns
returns c = record { answered = answered; involved = involved }
