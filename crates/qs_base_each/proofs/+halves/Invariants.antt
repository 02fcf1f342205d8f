use Rattle.std.proofs.Common.{length, ◌+◌, ◌*◌}
use Rattle.std.specs.Prelude.{max}
use Rattle.qs_base_each.proofs.+halves.Given as goal

abbrev pub decreases-halves : goal.decreases-halves
decreases-halves g l = 3 * length l.all.now

abbrev pub decreases-both : goal.decreases-both
decreases-both g l = 3 * max (length l.front.now) (length l.back.now) + 2

abbrev pub decreases-both-first : goal.decreases-both-first
decreases-both-first g l = 3 * length l.front.now + 1

abbrev pub decreases-both-second : goal.decreases-both-second
decreases-both-second g l = 3 * length l.back.now + 1
