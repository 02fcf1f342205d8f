use Rattle.qs_world_refine.proofs.MeetsAlone.{meet_goes_alone}
use Rattle.qs_world_refine.proofs.shown.meets.Goals as goal

pub returns : goal.returns
returns c = meet_goes_alone
