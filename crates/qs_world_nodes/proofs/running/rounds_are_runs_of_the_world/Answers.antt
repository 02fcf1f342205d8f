use Rattle.qs_world_nodes.proofs.Telling.{each_cut_traced, each_ending_traced, each_refused_traced, each_rounds_traced, each_sites_traced}
use Rattle.qs_world_nodes.proofs.running.rounds_are_runs_of_the_world.Goals as goal

pub returns : goal.returns
returns g c = record {
  sites = λ o plans sites. each_sites_traced g.D.Disk.told g.D.Disk.state o plans sites;
  rounds = λ alloc script disks o rng later n all new. each_rounds_traced g.D.Disk.told g.D.Disk.state g.D.Disk.fault_count g.D.Disk.byte_count alloc script disks o rng n all new later;
  ends = λ alloc script disks o seed all new ending. each_ending_traced g.D.Disk.told g.D.Disk.state g.D.Disk.fault_count g.D.Disk.byte_count alloc script disks o seed all new ending;
  cut = λ alloc script disks o seed node all new. each_cut_traced g.D.Disk.told g.D.Disk.state g.D.Disk.fault_count g.D.Disk.byte_count alloc script disks o seed node all new;
  refused = λ alloc script disks o seed all new. each_refused_traced g.D.Disk.told g.D.Disk.state g.D.Disk.fault_count g.D.Disk.byte_count alloc script disks o seed all new;
}
