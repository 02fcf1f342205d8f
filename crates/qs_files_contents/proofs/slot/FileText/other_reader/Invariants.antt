use Rattle.std.proofs.Common.{◌≡◌}
use Rattle.qs_files_contents.specs.Slots.{first_other, is_read}
use Rattle.qs_files_contents.proofs.slot.FileText.other_reader.Given as goal

abbrev pub invariant-loop-entry : goal.invariant-loop-entry
invariant-loop-entry l = first_other is_read l.me l.entry-iterator ≡ first_other is_read l.me l.self.readers
