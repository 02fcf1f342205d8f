use Rattle.std.proofs.Common.{◌≡◌, ◌+◌, ◌≤◌, length, take, vec_len}
use Rattle.std.specs.List.{fold}
use Rattle.std.specs.Vec.{vec_capacity}
use Rattle.qs_ops.specs.Places.{IsInOrder}
use Rattle.qs_ops.specs.Table.{apply_change}
use Rattle.qs_book_tables.specs.Views.{names_of}
use Rattle.qs_book_tables.proofs.views.names_in_view.Given as goal

abbrev pub invariant-loop-change : goal.invariant-loop-change
invariant-loop-change l = record {
  names : names_of l.hollow.items ≡ names_of (fold apply_change l.files (take l.change-index l.changes));
  order : IsInOrder l.hollow.items;
  room : vec_len l.hollow + length l.changes ≤ vec_capacity l.hollow + l.change-index;
}
