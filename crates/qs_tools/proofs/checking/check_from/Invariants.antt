use Rattle.std.proofs.Common.{◌≡◌, ◌+◌, length}
use Rattle.qs_tools.specs.Checked.{first_broken_line}
use Rattle.qs_tools.proofs.checking.check_from.Given as goal

abbrev pub invariant-loop-rest : goal.invariant-loop-rest
invariant-loop-rest l = record {
  same : first_broken_line l.at l.book l.rest ≡ first_broken_line l.line l.initial.book l.entries;
  place : l.at + length l.rest ≡ l.line + length l.entries;
}

abbrev pub decreases-loop-rest : goal.decreases-loop-rest
decreases-loop-rest l = length l.rest
