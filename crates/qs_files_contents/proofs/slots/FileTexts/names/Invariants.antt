use Rattle.std.proofs.Common.{◌≡◌, [], fold, map}
use Rattle.std.specs.Map.Iter.{deref_pair}
use Rattle.qs_files_contents.specs.Slots.{add_name}
use Rattle.qs_files_contents.proofs.slots.FileTexts.names.Given as goal

abbrev pub invariant-loop-entry : goal.invariant-loop-entry
invariant-loop-entry l = l.names ≡ fold (add_name l.tid) [] (map deref_pair l.yielded)
