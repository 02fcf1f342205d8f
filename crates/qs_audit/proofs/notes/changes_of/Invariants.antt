use Rattle.std.proofs.Common.{◌≡◌, take, map}
use Rattle.qs_ops.specs.Server.{note_of}
use Rattle.qs_audit.proofs.notes.changes_of.Given as goal

-- there is a change for each note so far
abbrev pub invariant-loop-text : goal.invariant-loop-text
invariant-loop-text l = l.changes ≡ map note_of (take l.text-index l.notes)
