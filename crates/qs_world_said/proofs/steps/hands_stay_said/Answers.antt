use Rattle.qs_world_said.proofs.HandsStay.{hands_stay}
use Rattle.qs_world_said.proofs.steps.hands_stay_said.Goals as goal

pub returns : goal.returns
returns c = hands_stay
