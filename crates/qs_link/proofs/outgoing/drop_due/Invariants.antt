use Rattle.std.proofs.Common.{◌≡◌, ◌≤◌, ◌++◌, take, drop}
use Rattle.std.specs.VecDeque.{deque_len, deque_capacity}
use Rattle.qs_link.specs.Plan.{early}
use Rattle.qs_link.proofs.outgoing.drop_due.Given as goal

abbrev pub invariant-loop-turn : goal.invariant-loop-turn
invariant-loop-turn l = record {
  held : l.held.items ≡ drop l._turn l.fn.held.items ++ early l.number (take l._turn l.fn.held.items);
  fewer : deque_len l.held ≤ deque_len l.fn.held;
  room : deque_capacity l.held ≡ deque_capacity l.fn.held;
}
