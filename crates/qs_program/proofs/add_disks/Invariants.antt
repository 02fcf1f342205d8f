use Rattle.std.proofs.Common.{◌≡◌, length}
use Rattle.qs_program.proofs.add_disks.Given as goal

abbrev pub invariant-loop-node : goal.invariant-loop-node
invariant-loop-node g l = length l.disks.items ≡ l.node-counter
