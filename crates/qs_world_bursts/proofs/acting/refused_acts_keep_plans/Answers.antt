use Rattle.qs_world_bursts.proofs.Refusing.{each_keeps_after, each_refused_act}
use Rattle.qs_world_bursts.proofs.acting.refused_acts_keep_plans.Goals as goal

pub returns : goal.returns
returns g c = record {
  act = λ nodes n old new. each_refused_act g.D.Disk.told g.D.Disk.state g.D.Disk.fault_count g.D.Disk.byte_count nodes n old new;
  keep = λ nodes plans old new. each_keeps_after nodes plans old new;
}
