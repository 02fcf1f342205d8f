use Rattle.std.proofs.Common.{◌≡◌, fold, take}
use Rattle.qs_files_contents.specs.Slots.{place_for}
use Rattle.qs_files_contents.proofs.slots.FileTexts.place_all.Given as goal

abbrev pub invariant-loop-change : goal.invariant-loop-change
invariant-loop-change l = l.self ≡ fold (place_for l.tid) l.initial.self (take l.change-index l.changes)
