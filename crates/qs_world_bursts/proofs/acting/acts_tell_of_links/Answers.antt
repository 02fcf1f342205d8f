use Rattle.qs_world_bursts.proofs.Told.{each_act, tells_on}
use Rattle.qs_world_bursts.proofs.acting.acts_tell_of_links.Goals as goal

pub returns : goal.returns
returns g c = record {
  act = λ nodes n old new. each_act g.D.Disk.told g.D.Disk.state g.D.Disk.fault_count g.D.Disk.byte_count nodes n old new;
  on = λ nodes n old mid new. tells_on nodes n old mid new;
}
