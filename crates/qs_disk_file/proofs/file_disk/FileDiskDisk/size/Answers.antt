use Rattle.std.proofs.Common.{arith, refl}
use Rattle.qs_disk_file.proofs.file_disk.FileDiskDisk.size.Goals as goal

pub returns-clause-allowed : goal.returns-clause-allowed
returns-clause-allowed g c = record { pages = 4096; whole = refl; least = omega arith; most = omega arith }
