use Rattle.qs_world_bursts.proofs.Joining.{each_joined}
use Rattle.qs_world_bursts.proofs.acting.links_stay_told_through_acts.Goals as goal

pub returns : goal.returns
returns g c = λ nodes plans old new. each_joined nodes plans old new
