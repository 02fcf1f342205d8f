use Rattle.qs_world_links.proofs.Carrying.{each_all_carried, each_carried, each_same}
use Rattle.qs_world_links.proofs.Keeping.{each_took}
use Rattle.qs_world_links.proofs.Linked.{each_keeps, each_new, each_restarted, each_told, each_visited}
use Rattle.qs_world_links.proofs.everywhere.links_stay_told.Goals as goal

pub returns : goal.returns
returns g c = record {
  new = λ nodes plans posts. each_new nodes plans posts;
  told = λ nodes k plans old new. each_told nodes plans k old new;
  visited = λ nodes k plans old new. each_visited nodes plans g.D.Disk.told g.D.Disk.state g.D.Disk.fault_count g.D.Disk.byte_count k old new;
  restarted = λ alloc nodes k plans old new answer. each_restarted nodes plans g.D.Disk.told g.D.Disk.state g.D.Disk.fault_count g.D.Disk.byte_count alloc k old new answer;
  carried = λ nodes m n plans result old new. each_carried nodes plans old new m n result;
  all_carried = λ nodes plans old new. each_all_carried nodes plans old new;
  same = λ nodes plans old new. each_same nodes plans old new;
  keeps = λ nodes plans posts. each_keeps nodes plans posts;
  took = λ nodes k plans old new. each_took nodes plans k old new;
}
