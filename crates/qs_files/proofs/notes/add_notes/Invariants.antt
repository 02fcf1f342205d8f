use Rattle.std.proofs.Common.{◌≡◌, ◌≤◌, ◌+◌, fold}
use Rattle.std.specs.Prelude.{vec_len}
use Rattle.std.specs.Vec.{vec_capacity}
use Rattle.std.specs.Vec.Iter.{into_iter_items}
use Rattle.qs_ops.specs.Table.{apply_note}
use Rattle.qs_files.specs.Noted.{count_notes}
use Rattle.qs_files.proofs.notes.add_notes.Given as goal

-- with the notes among the further changes all are added
abbrev pub invariant-loop-change : goal.invariant-loop-change
invariant-loop-change l = record {
  items : fold apply_note l.notes.items (into_iter_items l.change-iterator) ≡ fold apply_note l.initial.notes.items (into_iter_items l.initial.change-iterator);
  len : vec_len l.notes + count_notes (into_iter_items l.change-iterator) ≡ vec_len l.initial.notes + count_notes (into_iter_items l.initial.change-iterator);
  room : vec_len l.initial.notes + count_notes (into_iter_items l.initial.change-iterator) ≤ vec_capacity l.notes;
  capacity : vec_capacity l.initial.notes ≤ vec_capacity l.notes;
}
