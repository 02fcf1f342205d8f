use Rattle.std.proofs.Common.{◌≡◌}
use Rattle.qs_cell.specs.Joined.{HaveSameRings}
use Rattle.qs_cell.specs.Visits.{all_delivered}
use Rattle.qs_cell.proofs.cell.deliver_all.Given as goal

abbrev pub invariant-loop-said : goal.invariant-loop-said
invariant-loop-said l = record {
  answers : l.ends.items ≡ all_delivered l.yielded l.initial.ends.items;
  rings : HaveSameRings l.initial.ends.items l.ends.items;
}
