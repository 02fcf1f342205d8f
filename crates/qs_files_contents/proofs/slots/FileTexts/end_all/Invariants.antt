use Rattle.std.proofs.Common.{◌≡◌, fold, take}
use Rattle.qs_files_contents.specs.Slots.{end_change}
use Rattle.qs_files_contents.proofs.slots.FileTexts.end_all.Given as goal

abbrev pub invariant-loop-change : goal.invariant-loop-change
invariant-loop-change l = l.self ≡ fold (end_change l.tid l.commits) l.initial.self (take l.change-index l.changes)
