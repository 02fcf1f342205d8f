use Rattle.qs_world_links.proofs.Starting.{each_restart, each_start}
use Rattle.qs_world_links.proofs.Visiting.{each_visit}
use Rattle.qs_world_links.proofs.telling.cells_tell_of_links.Goals as goal

pub returns : goal.returns
returns g c = record {
  starts = λ n alloc disk setting links ends plan new. each_start g.D.Disk.told g.D.Disk.state n alloc disk setting links ends plan new;
  visits = λ nodes n old new. each_visit g.D.Disk.told g.D.Disk.state g.D.Disk.fault_count g.D.Disk.byte_count nodes n old new;
  restarts = λ alloc nodes n old new answer. each_restart g.D.Disk.told g.D.Disk.state g.D.Disk.fault_count g.D.Disk.byte_count alloc nodes n old new answer;
}
