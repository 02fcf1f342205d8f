use Rattle.std.proofs.Common.{◌≡◌, take}
use Rattle.std.specs.List.{fold}
use Rattle.qs_ops.specs.Table.{apply_note}
use Rattle.qs_book_tables.proofs.views.notes_in_view.Given as goal

abbrev pub invariant-loop-change : goal.invariant-loop-change
invariant-loop-change l = l.view ≡ fold apply_note l.notes (take l.change-index l.changes)
