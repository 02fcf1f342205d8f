use Rattle.std.proofs.Common.{◌≡◌}
use Rattle.qs_gen.specs.Load.{with_puts}
use Rattle.qs_gen.proofs.draft.Draft.add_puts.Given as goal

abbrev pub invariant-loop-file : goal.invariant-loop-file
invariant-loop-file l = l.self ≡ with_puts l.fn.label l.file l.initial.self
