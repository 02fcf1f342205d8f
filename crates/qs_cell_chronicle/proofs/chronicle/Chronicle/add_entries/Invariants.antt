use Rattle.std.proofs.Common.{◌≡◌, ◌≤◌, ◌+◌, length, fold}
use Rattle.std.specs.Vec.Iter.{into_iter_items, into_iter_len}
use Rattle.qs_cell_chronicle.specs.Chronicle.{with_entry}
use Rattle.qs_cell_chronicle.proofs.chronicle.Chronicle.add_entries.Given as goal

-- the acts that are left add to this chronicle what all of them add to the first one
abbrev pub invariant-loop-act : goal.invariant-loop-act
invariant-loop-act l = record {
  told : fold with_entry l.self.told (into_iter_items l.act-iterator) ≡ fold with_entry l.initial.self.told (into_iter_items l.initial.act-iterator);
  count : into_iter_len l.act-iterator ≡ length (into_iter_items l.act-iterator);
  room : length (into_iter_items l.act-iterator) ≤ l.self.entries;
  entries : l.initial.self.entries + length (into_iter_items l.act-iterator) ≤ l.self.entries + length (into_iter_items l.initial.act-iterator);
  steps : l.self.steps ≡ l.initial.self.steps;
}
