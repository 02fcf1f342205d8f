use Rattle.std.proofs.Common.{List, ◌++◌, length}
use Rattle.qs_ops.specs.Server.{AreAppends}
use Rattle.qs_ops.specs.declared.operation.Op.{Op}
use Rattle.qs_files_contents.specs.Written.{AddsAppends}
use Rattle.qs_files_contents.proofs.writing.add_appends.Given as goal

-- with appends of the rest, the text is appended
abbrev pub invariant-loop-rest : goal.invariant-loop-rest
invariant-loop-rest l = (more : List Op) → AreAppends l.name l.rest more → AddsAppends l.name l.text l.initial.out (l.out ++ more)

abbrev pub decreases-loop-rest : goal.decreases-loop-rest
decreases-loop-rest l = length l.rest
