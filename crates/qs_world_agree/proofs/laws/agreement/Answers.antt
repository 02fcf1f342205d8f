use Rattle.qs_world_agree.proofs.Lawful.{agreed}
use Rattle.qs_world_agree.proofs.laws.agreement.Goals as goal

pub returns : goal.returns
returns c = record { agreed = agreed }
