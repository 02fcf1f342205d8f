use Rattle.qs_files_contents.proofs.Sums.{told_unread}
use Rattle.qs_files_contents.proofs.slots.FileTexts.unread.Goals as goal

pub invariant_of-self : goal.invariant_of-self
invariant_of-self c = told_unread c.args.tid c.args.name.now c.self.inside.names c.unread.new.names c.self.inside.committed c.self.invariant c.unread.ensures
