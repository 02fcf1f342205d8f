use Rattle.qs_world_seats.proofs.SitesGoOn.{each_fails, each_links, each_node, each_site_carries, each_visit_all, each_visit_at}
use Rattle.qs_world_seats.proofs.sites.sites_go_on.Goals as goal

pub returns : goal.returns
returns g c = record {
  node = λ o n old new did clients. each_node g.D.Disk.told g.D.Disk.state g.D.Disk.fault_count g.D.Disk.byte_count o n old new did clients;
  carries = λ o n old new. each_site_carries g.D.Disk.told g.D.Disk.state o n old new;
  visits = λ o n place old new did. each_visit_at g.D.Disk.told g.D.Disk.state g.D.Disk.fault_count g.D.Disk.byte_count o n place old new did;
  all = λ o n places old new did. each_visit_all g.D.Disk.told g.D.Disk.state g.D.Disk.fault_count g.D.Disk.byte_count o n places old new did;
  fails = λ o n place old new. each_fails g.D.Disk.told g.D.Disk.state g.D.Disk.fault_count g.D.Disk.byte_count o n place old new;
  links = λ o n cast links. each_links g.D.Disk.told g.D.Disk.state o n cast links;
}
