use Rattle.std.proofs.Common.{◌≡◌, take, map}
use Rattle.qs_book_machine.specs.Opening.{note_of}
use Rattle.qs_book.proofs.opening.notes_of.Given as goal

abbrev pub invariant-loop-text : goal.invariant-loop-text
invariant-loop-text l = l.notes ≡ map note_of (take l.text-index l.texts)
