use Rattle.qs_files_contents.proofs.Sums.{by_result, told_read, told_same}
use Rattle.qs_files_contents.proofs.slots.FileTexts.read.Goals as goal

pub invariant_of-self : goal.invariant_of-self
invariant_of-self c =
    let names = c.self.inside.names in
    let bytes = c.self.inside.committed in
    by_result c.read.result c.read.ensures.ok c.read.ensures.err
    (told_read c.args.tid c.args.name.now names c.read.new.names bytes c.self.invariant)
    (told_same names c.read.new.names bytes c.self.invariant)
