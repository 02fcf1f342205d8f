use Rattle.std.proofs.Common.{◌≡◌}
use Rattle.qs_gen.specs.Load.{with_transactions}
use Rattle.qs_gen.proofs.draft.Draft.add_transactions.Given as goal

abbrev pub invariant-loop-number : goal.invariant-loop-number
invariant-loop-number l = l.self ≡ with_transactions l.fn.client l.number l.initial.self
