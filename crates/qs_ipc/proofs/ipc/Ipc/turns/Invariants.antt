use Rattle.std.proofs.Common.{◌≡◌, map}
use Rattle.std.specs.Map.Iter.{deref_pair}
use Rattle.qs_ipc.specs.Ipc.{turns}
use Rattle.qs_ipc.proofs.ipc.Ipc.turns.Given as goal

abbrev pub invariant-loop-server : goal.invariant-loop-server
invariant-loop-server l = l.servers ≡ turns (map deref_pair l.yielded)
