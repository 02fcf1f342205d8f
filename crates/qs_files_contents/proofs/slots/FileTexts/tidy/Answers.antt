use Rattle.qs_files_contents.proofs.Sums.{told_tidied}
use Rattle.qs_files_contents.proofs.slots.FileTexts.tidy.Goals as goal

pub invariant_of-self : goal.invariant_of-self
invariant_of-self c = told_tidied c.args.tid c.args.name.now c.self.inside.names c.tidy.new.names c.self.inside.committed c.self.invariant c.tidy.ensures
