use Rattle.std.proofs.Common.{◌≡◌, ◌≤◌, ◌+◌, ◌++◌, length}
use Rattle.std.specs.VecDeque.{deque_capacity}
use Rattle.rtrb.specs.Ring.{received, known_items, SameConsumer}
use Rattle.qs_link.proofs.lanes.pop_all.Given as goal

abbrev pub invariant-loop-turn : goal.invariant-loop-turn
invariant-loop-turn g l = record {
  same : SameConsumer l.fn.ring l.ring;
  inbox : l.inbox.items ++ known_items l.ring ≡ l.fn.inbox.items ++ known_items l.fn.ring;
  ring : received l.ring ++ known_items l.ring ≡ received l.fn.ring ++ known_items l.fn.ring;
  left : length (known_items l.ring) + l._turn ≡ l.count;
  room : length l.inbox.items + length (known_items l.ring) ≤ deque_capacity l.inbox;
}
