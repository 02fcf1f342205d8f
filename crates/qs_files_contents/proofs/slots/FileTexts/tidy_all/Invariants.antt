use Rattle.std.proofs.Common.{◌≡◌, fold, take}
use Rattle.qs_files_contents.specs.Slots.{tidy_change}
use Rattle.qs_files_contents.proofs.slots.FileTexts.tidy_all.Given as goal

abbrev pub invariant-loop-change : goal.invariant-loop-change
invariant-loop-change l = l.self ≡ fold (tidy_change l.tid) l.initial.self (take l.change-index l.changes)
