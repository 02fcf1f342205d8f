use Rattle.std.proofs.Common.{◌≡◌, ◌++◌}
use Rattle.qs_link.specs.Plan.{due}
use Rattle.qs_link.proofs.outgoing.add_due.Given as goal

abbrev pub invariant-loop-packet : goal.invariant-loop-packet
invariant-loop-packet l = l.goes.items ++ due l.number (l.packet-iterator.head.now ++ l.packet-iterator.wrapped.now) ≡ l.fn.goes.items ++ due l.number l.held.items
