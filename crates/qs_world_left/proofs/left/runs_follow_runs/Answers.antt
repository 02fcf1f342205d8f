use Rattle.qs_world_left.proofs.Raised.{each_cut_follows, each_ending_follows, each_raised, each_refused_follows, each_rounds_follow}
use Rattle.qs_world_left.proofs.left.runs_follow_runs.Goals as goal

pub returns : goal.returns
returns g c = record {
  raised = λ alloc script disks all. each_raised c.logs_stay_coherent.ensures.later g.D.Disk.told g.D.Disk.state g.D.Disk.fault_count alloc script disks all;
  rounds = λ alloc script disks rng later n all new.
      each_rounds_follow c.what_fits_may_begin.ensures.begins c.logs_stay_coherent.ensures.later g.D.Disk.told g.D.Disk.state g.D.Disk.fault_count g.D.Disk.byte_count alloc script disks all rng n new later;
  ends = λ alloc script disks seed all new ending.
      each_ending_follows c.what_fits_may_begin.ensures.begins c.logs_stay_coherent.ensures.later g.D.Disk.told g.D.Disk.state g.D.Disk.fault_count g.D.Disk.byte_count alloc script disks all seed new ending;
  cut = λ alloc script disks seed node all new.
      each_cut_follows c.what_fits_may_begin.ensures.begins c.logs_stay_coherent.ensures.later g.D.Disk.told g.D.Disk.state g.D.Disk.fault_count g.D.Disk.byte_count alloc script disks all seed node new;
  refused = λ alloc script disks seed all new.
      each_refused_follows c.what_fits_may_begin.ensures.begins c.logs_stay_coherent.ensures.later g.D.Disk.told g.D.Disk.state g.D.Disk.fault_count g.D.Disk.byte_count alloc script disks all seed new;
}
