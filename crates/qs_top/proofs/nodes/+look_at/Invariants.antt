use Rattle.std.proofs.Common.{length}
use Rattle.qs_top.proofs.nodes.+look_at.Given as goal

-- a disk less each time
abbrev pub decreases-look_at : goal.decreases-look_at
decreases-look_at g l = length l.disks.now
