use Rattle.qs_world_left.proofs.TouchedStay.{each_touched}
use Rattle.qs_world_left.proofs.disks.touched_disks_stay_coherent.Goals as goal

pub returns : goal.returns
returns c = λ old new. each_touched c.logs_stay_coherent.ensures.later old new
