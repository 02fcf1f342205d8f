use Rattle.std.proofs.Common.{◌≡◌, fold, take}
use Rattle.qs_files_contents.specs.Slots.{at_change, finished}
use Rattle.qs_files_contents.proofs.slots.FileTexts.finish_all.Given as goal

abbrev pub invariant-loop-change : goal.invariant-loop-change
invariant-loop-change l = l.self ≡ fold (at_change (finished l.tid l.commits)) l.initial.self (take l.change-index l.changes)
