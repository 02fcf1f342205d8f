use Rattle.std.proofs.Common.{◌≡◌}
use Rattle.qs_gen.specs.Load.{with_commands}
use Rattle.qs_gen.proofs.draft.Draft.add_commands.Given as goal

abbrev pub invariant-loop-client : goal.invariant-loop-client
invariant-loop-client l = l.self ≡ with_commands l.client l.initial.self
