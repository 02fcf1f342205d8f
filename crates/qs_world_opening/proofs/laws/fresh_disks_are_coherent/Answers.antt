use Rattle.qs_world_opening.proofs.Fresh.{fresh}
use Rattle.qs_world_opening.proofs.laws.fresh_disks_are_coherent.Goals as goal

pub returns : goal.returns
returns c = λ alloc size. fresh c.counted_once.ensures.records c.logs_stay_coherent.ensures.empty alloc size
