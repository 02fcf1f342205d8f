use Rattle.std.proofs.Common.{◌≡◌, [], fold, take}
use Rattle.qs_files_contents.specs.Edits.{add_prepared}
use Rattle.qs_files_contents.proofs.prepared.prepare.Given as goal

abbrev pub invariant-loop-change : goal.invariant-loop-change
invariant-loop-change l = l.prepared.items ≡ fold add_prepared [] (take l.change-index l.changes)
