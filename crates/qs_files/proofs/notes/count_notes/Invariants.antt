use Rattle.std.proofs.Common.{◌≡◌, ◌≤◌, take}
use Rattle.qs_files.specs.Noted.{count_notes}
use Rattle.qs_files.proofs.notes.count_notes.Given as goal

-- the notes so far are counted, and there are no more of them than changes
abbrev pub invariant-loop-change : goal.invariant-loop-change
invariant-loop-change l = record {
  counted : l.count ≡ count_notes (take l.change-index l.changes);
  few : l.count ≤ l.change-index;
}
