use Rattle.qs_world_links.proofs.Refused.{each_break, each_restart_takes, each_visit_takes}
use Rattle.qs_world_links.proofs.telling.cells_tell_of_takes.Goals as goal

pub returns : goal.returns
returns g c = record {
  breaks = λ nodes n old new. each_break g.D.Disk.told g.D.Disk.state g.D.Disk.fault_count g.D.Disk.byte_count nodes n old new;
  visits = λ nodes n old new. each_visit_takes g.D.Disk.told g.D.Disk.state g.D.Disk.fault_count g.D.Disk.byte_count nodes n old new;
  restarts = λ alloc nodes n old new answer. each_restart_takes g.D.Disk.told g.D.Disk.state g.D.Disk.fault_count g.D.Disk.byte_count alloc nodes n old new answer;
}
