use Rattle.std.proofs.Common.{◌≡◌, take}
use Rattle.std.specs.List.{fold}
use Rattle.qs_ops.specs.Table.{apply_note}
use Rattle.qs_audit.proofs.notes.add_notes.Given as goal

-- the notes of the changes so far are added
abbrev pub invariant-loop-change : goal.invariant-loop-change
invariant-loop-change l = l.notes ≡ fold apply_note l.initial.notes (take l.change-index l.changes)
