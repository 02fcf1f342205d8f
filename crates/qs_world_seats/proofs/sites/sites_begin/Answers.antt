use Rattle.qs_world_seats.proofs.ByNumber.{each_by_number}
use Rattle.qs_world_seats.proofs.SitesBegin.{each_site_begins}
use Rattle.qs_world_seats.proofs.sites.sites_begin.Goals as goal

pub returns : goal.returns
returns g c = record {
  begins = λ o n alloc given plan script disk cast. each_site_begins g.D.Disk.told g.D.Disk.state o n alloc given plan script disk cast;
  numbers = λ is limit clients. each_by_number is limit clients;
}
