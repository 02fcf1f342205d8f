use Rattle.std.proofs.Common.{take}
use Rattle.qs_node_kept.specs.Keeping.{IsLabelled}
use Rattle.qs_node_kept.proofs.labels.note_all.Given as goal

abbrev pub invariant-loop-place : goal.invariant-loop-place
invariant-loop-place l = IsLabelled l.by_label.entries l.by_tid.entries (take l.place l.labels)
