use Rattle.std.proofs.Common.{◌≡◌, ◌+◌, ◌≤◌, length, vec_len}
use Rattle.std.specs.List.{fold}
use Rattle.std.specs.Vec.{vec_capacity}
use Rattle.qs_ops.specs.Places.{IsInOrder}
use Rattle.qs_book_tables.specs.Staged.{set_entry}
use Rattle.qs_book_tables.proofs.staged.apply_texts.Given as goal

-- the texts that are left make of these files what all texts make of the first ones
abbrev pub invariant-loop-name : goal.invariant-loop-name
invariant-loop-name l = record {
  value : fold set_entry l.files.items l.name-iterator ≡ fold set_entry l.initial.files.items l.initial.name-iterator;
  order : IsInOrder l.files.items;
  room : vec_len l.files + length l.name-iterator ≤ vec_capacity l.files;
}
