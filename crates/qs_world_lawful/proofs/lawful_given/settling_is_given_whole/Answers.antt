use Rattle.qs_world_lawful.proofs.GivenStages.{may_settle, s_settled}
use Rattle.qs_world_lawful.proofs.lawful_given.settling_is_given_whole.Goals as goal

pub returns : goal.returns
returns c = record { may = may_settle; stands = s_settled }
