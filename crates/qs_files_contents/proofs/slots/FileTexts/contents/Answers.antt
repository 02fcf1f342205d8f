use Rattle.std.specs.Map.Iter.{deref_pair}
use Rattle.qs_files_contents.proofs.Added.{written_on, written_none}
use Rattle.qs_files_contents.proofs.slots.FileTexts.contents.Goals as goal

pub loop-entry-init : goal.loop-entry-init
loop-entry-init c = written_none c.new-changes.result c.new-changes.ensures

pub loop-entry-preserved : goal.loop-entry-preserved
loop-entry-preserved c = written_on deref_pair c.loop-entry.yielded c.in-Some.entry c.loop-entry.changes c.add_slot.new.changes c.loop-entry.invariant c.in_ok-add_slot.ensures
