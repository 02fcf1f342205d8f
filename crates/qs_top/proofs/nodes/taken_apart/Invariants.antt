use Rattle.std.proofs.Common.{◌≡◌, map}
use Rattle.qs_top.specs.Ran.{journal_in, opened_in, trace_in}
use Rattle.qs_top.proofs.nodes.taken_apart.Given as goal

-- of those nodes so far
abbrev pub invariant-loop-told : goal.invariant-loop-told
invariant-loop-told l = (l.all.opened ≡ map opened_in l.yielded) × ((l.all.journals ≡ map journal_in l.yielded) × (l.all.traces ≡ map trace_in l.yielded))
