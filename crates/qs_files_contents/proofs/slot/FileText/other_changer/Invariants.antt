use Rattle.std.proofs.Common.{◌≡◌}
use Rattle.qs_files_contents.specs.Slots.{first_other, is_edit}
use Rattle.qs_files_contents.proofs.slot.FileText.other_changer.Given as goal

abbrev pub invariant-loop-entry : goal.invariant-loop-entry
invariant-loop-entry l = first_other is_edit l.me l.entry-iterator ≡ first_other is_edit l.me l.self.edits
