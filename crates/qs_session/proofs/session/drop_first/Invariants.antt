use Rattle.std.proofs.Common.{◌≡◌, drop}
use Rattle.qs_session.proofs.session.drop_first.Given as goal

abbrev pub invariant-loop-turn : goal.invariant-loop-turn
invariant-loop-turn l = l.kept.items ≡ drop l._turn l.initial.kept.items
