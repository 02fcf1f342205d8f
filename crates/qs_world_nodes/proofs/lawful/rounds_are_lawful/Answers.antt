use Rattle.qs_world_nodes.proofs.Histories.{each_cut_lawful, each_ending_lawful, each_refused_lawful, each_rounds_lawful}
use Rattle.qs_world_nodes.proofs.lawful.rounds_are_lawful.Goals as goal

pub returns-clause-rounds : goal.returns-clause-rounds
returns-clause-rounds g c = λ alloc script disks rng later n all new journal trace.
    each_rounds_lawful c.what_fits_may_begin.ensures.begins c.journals_are_lawful.ensures g.D.Disk.told g.D.Disk.state g.D.Disk.fault_count g.D.Disk.byte_count alloc script disks rng n all new later journal trace

pub returns-clause-ends : goal.returns-clause-ends
returns-clause-ends g c = λ alloc script disks seed all new ending journal trace.
    each_ending_lawful c.what_fits_may_begin.ensures.begins c.journals_are_lawful.ensures g.D.Disk.told g.D.Disk.state g.D.Disk.fault_count g.D.Disk.byte_count alloc script disks seed all new ending journal trace

pub returns-clause-cut : goal.returns-clause-cut
returns-clause-cut g c = λ alloc script disks seed node all new journal trace.
    each_cut_lawful c.what_fits_may_begin.ensures.begins c.journals_are_lawful.ensures g.D.Disk.told g.D.Disk.state g.D.Disk.fault_count g.D.Disk.byte_count alloc script disks seed node all new journal trace

pub returns-clause-refused : goal.returns-clause-refused
returns-clause-refused g c = λ alloc script disks seed all new journal trace.
    each_refused_lawful c.what_fits_may_begin.ensures.begins c.journals_are_lawful.ensures g.D.Disk.told g.D.Disk.state g.D.Disk.fault_count g.D.Disk.byte_count alloc script disks seed all new journal trace
