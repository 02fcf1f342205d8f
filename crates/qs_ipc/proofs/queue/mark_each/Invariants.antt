use Rattle.std.proofs.Common.{◌≡◌, ◌++◌, map, take, drop}
use Rattle.qs_ipc.specs.Queue.{mark_stale}
use Rattle.qs_ipc.proofs.queue.mark_each.Given as goal

abbrev pub invariant-loop-delivery : goal.invariant-loop-delivery
invariant-loop-delivery l =
    l.waiting ≡ map (mark_stale l.peer) (take l.delivery-index l.initial.waiting) ++ drop l.delivery-index l.initial.waiting
