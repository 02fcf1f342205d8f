use Rattle.std.proofs.Common.{◌≡◌, map}
use Rattle.qs_ipc.specs.Ipc.{forgotten_below}
use Rattle.qs_ipc.proofs.ipc.Ipc.forget.Given as goal

abbrev pub invariant-loop-number : goal.invariant-loop-number
invariant-loop-number l = l.self-inside.queues.entries ≡ map (forgotten_below l.number l.tid) l.initial.self-inside.queues.entries
