use Rattle.std.proofs.Common.{◌≡◌, ◌+◌, ◌++◌, length, map, All}
use Rattle.qs_session_channels.specs.End.{again}
use Rattle.qs_session.specs.Seen.{seen, IsFrom}
use Rattle.qs_session.proofs.session.Session.again.Given as goal

abbrev pub invariant-loop-message : goal.invariant-loop-message
invariant-loop-message l = record {
  sent : map seen l.packets ++ again l.self.end l.stamp l.number (l.message-iterator.head.now ++ l.message-iterator.wrapped.now) ≡ again l.self.end l.stamp l.self.end.acked l.self.end.kept;
  counted : l.number + length (l.message-iterator.head.now ++ l.message-iterator.wrapped.now) ≡ l.self.end.acked + length l.self.end.kept;
  from : All (IsFrom l.self) l.packets;
}
