use Rattle.std.proofs.Common.{◌≡◌, ◌+◌, [], length}
use Rattle.qs_link.specs.Lane.{Fed}
use Rattle.qs_link.proofs.lanes.Feed.push_all.Given as goal

abbrev pub invariant-loop-turn : goal.invariant-loop-turn
invariant-loop-turn g l = record {
  fed : Fed [] l.fn.self l.self;
  left : length l.self.outbox + l._turn ≡ l._turn-end;
}
