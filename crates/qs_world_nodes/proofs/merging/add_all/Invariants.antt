use Rattle.std.proofs.Common.{◌≡◌, ◌++◌}
use Rattle.qs_world_nodes.proofs.merging.add_all.Given as goal

abbrev pub invariant-loop-item : goal.invariant-loop-item
invariant-loop-item g l = l.all ≡ l.initial.all ++ l.yielded
