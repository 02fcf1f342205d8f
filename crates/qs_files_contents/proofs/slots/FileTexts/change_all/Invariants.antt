use Rattle.std.proofs.Common.{◌≡◌, fold}
use Rattle.qs_files_contents.specs.Slots.{change_by}
use Rattle.qs_files_contents.proofs.slots.FileTexts.change_all.Given as goal

abbrev pub invariant-loop-change : goal.invariant-loop-change
invariant-loop-change l = l.self ≡ fold (change_by l.tid) l.initial.self l.yielded
