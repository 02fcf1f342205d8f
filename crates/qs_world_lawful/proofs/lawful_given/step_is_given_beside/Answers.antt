use Rattle.qs_world_lawful.proofs.StandsOn.{beside_gives, keeps_standing}
use Rattle.qs_world_lawful.proofs.lawful_given.step_is_given_beside.Goals as goal

pub returns : goal.returns
returns c = record { rules = keeps_standing; step = beside_gives }
