use Rattle.std.proofs.Common.{◌≡◌, ◌++◌, map, take}
use Rattle.qs_ipc.specs.declared.delivery.Delivery.{Delivery}
use Rattle.qs_ipc.proofs.queue.Queue.add_turns.Given as goal

abbrev pub invariant-loop-turn : goal.invariant-loop-turn
invariant-loop-turn l = l.turns ≡ l.initial.turns ++ map (λ (delivery : Delivery). l.server) (take l._turn l.self.waiting)
