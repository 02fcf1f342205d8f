use Rattle.std.proofs.Common.{◌≡◌, ◌++◌}
use Rattle.qs_cell_peers.proofs.sessions.add_all.Given as goal

abbrev pub invariant-loop-packet : goal.invariant-loop-packet
invariant-loop-packet l = l.packets ≡ l.initial.packets ++ l.yielded
