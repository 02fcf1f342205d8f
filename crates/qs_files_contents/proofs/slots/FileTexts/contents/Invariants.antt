use Rattle.std.proofs.Common.{map}
use Rattle.std.specs.Map.Iter.{deref_pair}
use Rattle.qs_ops.specs.Server.{AreFilesWritten}
use Rattle.qs_files_contents.specs.Slots.{files_in}
use Rattle.qs_files_contents.proofs.slots.FileTexts.contents.Given as goal

-- the files so far are written
abbrev pub invariant-loop-entry : goal.invariant-loop-entry
invariant-loop-entry l = AreFilesWritten (files_in (map deref_pair l.yielded)) l.changes
