use Rattle.qs_world_left.proofs.DisksRead.{are_read, one_is_coherent}
use Rattle.qs_world_left.proofs.disks.disks_are_read.Goals as goal

pub returns : goal.returns
returns c = record { read = λ disks. are_read disks; one = λ disk. one_is_coherent disk }
