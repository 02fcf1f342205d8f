use Rattle.std.proofs.Common.{◌≡◌}
use Rattle.qs_gen.specs.Load.{with_clients}
use Rattle.qs_gen.proofs.draft.Draft.add_clients.Given as goal

abbrev pub invariant-loop-client : goal.invariant-loop-client
invariant-loop-client l = l.self ≡ with_clients l.client l.initial.self
