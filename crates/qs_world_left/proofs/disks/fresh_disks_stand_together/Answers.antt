use Rattle.qs_world_left.proofs.DisksRead.{fresh}
use Rattle.qs_world_left.proofs.disks.fresh_disks_stand_together.Goals as goal

pub returns : goal.returns
returns c = λ alloc size lengths. fresh c.logs_stay_coherent.ensures.empty alloc size lengths
