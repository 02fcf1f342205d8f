use Rattle.qs_files_contents.proofs.Sums.{told_changed}
use Rattle.qs_files_contents.proofs.slots.FileTexts.change.Goals as goal

pub invariant_of-self : goal.invariant_of-self
invariant_of-self c = told_changed c.args.tid c.args.change c.self.inside.names c.change.new.names c.self.inside.committed c.self.invariant c.change.ensures
