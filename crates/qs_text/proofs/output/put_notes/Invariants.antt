use Rattle.std.proofs.Common.{◌≡◌, ◌++◌, take}
use Rattle.std.specs.List.{flat_map}
use Rattle.qs_text.specs.Output.{note_text}
use Rattle.qs_text.proofs.output.put_notes.Given as goal

abbrev pub invariant-loop-note : goal.invariant-loop-note
invariant-loop-note l = l.out ≡ l.initial.out ++ flat_map (note_text) (take l.note-index l.notes)
